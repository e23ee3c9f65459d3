-- The tests of what lines leave.
use Rattle.std.proofs.Common.{◌≡◌, ℕ, ◌+◌, ◌<◌, ◌≤◌, refl, sym, ap, ◌∙◌, Bool, true, false, cond, List, [], ◌∷◌, ◌++◌, append-nil, length, get_or, take, Option, None, Some, arith}
use Rattle.std.specs.Prelude.{not, ◌&&◌, ◌||◌, flat_map, is_some}
use Rattle.std.specs.List.{list_all}
use Rattle.std.specs.Option.{option_or}
use Rattle.std.proofs.lemmas.Bool.{and_parts}
use Rattle.std.proofs.lemmas.List.{take_all, take_more}
use Rattle.std.proofs.lemmas.List.Elements.{filter-append}
use Rattle.cps_text.specs.declared.name.Name.{Name}
use Rattle.cps_state.specs.declared.item.Item.{Item}
use Rattle.cps_state.specs.declared.key.Put.{Put}
use Rattle.cps_state.specs.contracts.key.KeyPartialEq.TheImpl.{eq-value as key_eq}
use Rattle.cps_state.specs.contracts.key.PutPartialEq.TheImpl.{eq-value}
use Rattle.cps_state.specs.Course.{Trace}
use Rattle.cps_state.specs.Made.{content_literals}
use Rattle.cps_state.proofs.KnownLemmas.{same_key_is, same_key-true}
use Rattle.cps_final.specs.Finals.{first_program}
use Rattle.cps_final.specs.Pool.{literals_of}
use Rattle.cps_final.specs.Outcome.{labels_read, blocks_named}
use Rattle.cps_final.specs.Naming.{all_named}
use Rattle.cps_final.proofs.AnswerLemmas.{answer-is}
use Rattle.cps_chunk.specs.Code.Leaving.{same_counter, leaves_counters_alone, leaves_nothing}
use Rattle.cps_chunk.specs.Code.NoLiteral.{is_no_literal}
use Rattle.cps_chunk.specs.Code.Storing.{is_counter, counters_in, left_by}
use Rattle.cps_chunk.proofs.StoringLemmas.{joined, left-append}

-- ---- puts

put-is : (a b : Put) → (eq-value.it) a b ≡ true → a ≡ b
put-is a b h =
    let both = and_parts ((key_eq.it) a.key b.key) _ h in
    let key = same_key-true a.key b.key (sym (same_key_is a.key b.key) ∙ both.0) in
    let answer = answer-is a.answer b.answer both.1 in
    λ i. record { key = key i; answer = answer i }

counter-pair : (a b : Put) → same_counter a b ≡ true → counters_in (a ∷ []) ≡ counters_in (b ∷ [])
counter-pair a b = by_tests (is_counter a.key) (is_counter b.key) refl refl
  where
    both_same : (eq-value.it) a b ≡ true → counters_in (a ∷ []) ≡ counters_in (b ∷ [])
    both_same h = ap (λ (p : Put). counters_in (p ∷ [])) (put-is a b h)

    by_tests : (x y : Bool) → is_counter a.key ≡ x → is_counter b.key ≡ y → ((not x && not y) || (eq-value.it) a b) ≡ true → counters_in (a ∷ []) ≡ counters_in (b ∷ [])
    by_tests true y one two h = both_same h
    by_tests false true one two h = both_same h
    by_tests false false one two h =
        let none : List Put = [] in
        ap (λ (t : Bool). cond t (a ∷ none) none) one ∙ sym (ap (λ (t : Bool). cond t (b ∷ none) none) two)

counters-more : (puts : List Put) (i : ℕ) (p : Put) → i < length puts → p ≡ get_or puts i p → counters_in (take (i + 1) puts) ≡ counters_in (take i puts) ++ counters_in (p ∷ [])
counters-more puts i p lt is =
    ap counters_in (take_more puts i p lt ∙ ap (λ (q : Put). take i puts ++ q ∷ []) (sym is)) ∙ filter-append (λ (q : Put). is_counter q.key) (take i puts) (p ∷ [])

pub counters-next : (olds news : List Put) (i : ℕ) (old new : Put) → i < length olds → i < length news → old ≡ get_or olds i old → new ≡ get_or news i new
    → counters_in (take i olds) ≡ counters_in (take i news) → same_counter old new ≡ true → counters_in (take (i + 1) olds) ≡ counters_in (take (i + 1) news)
counters-next olds news i old new lt lt' is is' before same =
    let here = counter-pair old new same in
    counters-more olds i old lt is ∙ (λ j. before j ++ here j) ∙ sym (counters-more news i new lt' is')

pub counters-all : (olds news : List Put) (i : ℕ) → length olds ≤ i → length news ≤ i → counters_in (take i olds) ≡ counters_in (take i news) → counters_in olds ≡ counters_in news
counters-all olds news i le le' same = ap counters_in (sym (take_all i olds le)) ∙ same ∙ ap counters_in (take_all i news le')

no-counters : (puts : List Put) → list_all (λ (p : Put). not (is_counter p.key)) puts ≡ true → counters_in puts ≡ []
no-counters [] h = refl
no-counters (p ∷ puts) h =
    let both = and_parts (not (is_counter p.key)) (list_all (λ (q : Put). not (is_counter q.key)) puts) h in
    first (is_counter p.key) both.0 ∙ no-counters puts both.1
  where
    first : (test : Bool) → not test ≡ true → cond test (p ∷ counters_in puts) (counters_in puts) ≡ counters_in puts
    first true h = cc
    first false h = refl

-- ---- literals and the program's name

none-false : (words : List ℕ) → list_all (λ word. false) words ≡ true → words ≡ []
none-false [] h = refl
none-false (w ∷ words) h = cc

no-literals : (items : List Item) → list_all (all_named is_no_literal) items ≡ true → flat_map (λ (item : Item). literals_of item.made) items ≡ []
no-literals [] h = refl
no-literals (item ∷ items) h =
    let both = and_parts (all_named is_no_literal item) (list_all (all_named is_no_literal) items) h in
    let one = and_parts (list_all (λ (name : Name). true) (labels_read item.made)) _ both.0 in
    let two = and_parts (list_all (λ (name : Option Name). true) (blocks_named item)) _ one.1 in
    ap (λ (ws : List ℕ). ws ++ flat_map (λ (i : Item). literals_of i.made) items) (none-false (flat_map content_literals item.made.contents) two.1) ∙ no-literals items both.1

no-program : (items : List Item) → list_all (λ (item : Item). not (is_some item.made.program)) items ≡ true → first_program items ≡ None
no-program [] h = refl
no-program (item ∷ items) h =
    let both = and_parts (not (is_some item.made.program)) (list_all (λ (i : Item). not (is_some i.made.program)) items) h in
    ap (λ (o : Option Name). option_or o (first_program items)) (not-some item.made.program both.0) ∙ no-program items both.1
  where
    not-some : (o : Option Name) → not (is_some o) ≡ true → o ≡ None
    not-some None h = refl
    not-some (Some n) h = cc

-- ---- lines

-- a line that leaves counters alone leaves these
left-alone : (t : Trace) → leaves_counters_alone t ≡ true → left_by (t ∷ []) ≡ record { puts = counters_in t.puts; literals = []; program = None }
left-alone t h =
    let both = and_parts (list_all (all_named is_no_literal) t.items) (list_all (λ (i : Item). not (is_some i.made.program)) t.items) h in
    let puts = ap counters_in (append-nil t.puts) in
    let literals = no-literals t.items both.0 in
    let program = no-program t.items both.1 in
    λ i. record { puts = puts i; literals = literals i ++ []; program = option_or (program i) None }

pub left-pair : (old new : Trace) → counters_in old.puts ≡ counters_in new.puts → leaves_counters_alone old ≡ true → leaves_counters_alone new ≡ true
    → left_by (old ∷ []) ≡ left_by (new ∷ [])
left-pair old new puts one two = left-alone old one ∙ (λ i. record { puts = puts i; literals = []; program = None }) ∙ sym (left-alone new two)

pub left-one : (olds news : List Trace) (old new : Trace) → length olds ≡ 1 → length news ≡ 1 → old ≡ get_or olds 0 old → new ≡ get_or news 0 new
    → left_by (old ∷ []) ≡ left_by (new ∷ []) → left_by olds ≡ left_by news
left-one [] news old new a b p q same = absurd (omega (arith, a))
left-one (o ∷ p ∷ olds) news old new a b p' q same = absurd (omega (arith, a))
left-one (o ∷ []) [] old new a b p q same = absurd (omega (arith, b))
left-one (o ∷ []) (m ∷ n ∷ news) old new a b p q same = absurd (omega (arith, b))
left-one (o ∷ []) (m ∷ []) old new a b p q same = ap (λ t. left_by (t ∷ [])) (sym p) ∙ same ∙ ap (λ t. left_by (t ∷ [])) q

pub left-none : (traces : List Trace) → list_all leaves_nothing traces ≡ true → left_by traces ≡ left_by []
left-none [] h = refl
left-none (t ∷ traces) h =
    let both = and_parts (leaves_nothing t) (list_all leaves_nothing traces) h in
    let one = and_parts (list_all (λ (p : Put). not (is_counter p.key)) t.puts) (leaves_counters_alone t) both.0 in
    let none = no-counters t.puts one.0 in
    left-append (t ∷ []) traces ∙ ap (λ l. joined l (left_by traces)) (left-alone t one.1 ∙ (λ i. record { puts = none i; literals = []; program = None }))
    ∙ ap (joined (left_by [])) (left-none traces both.1) ∙ sym (left-append [] [])
