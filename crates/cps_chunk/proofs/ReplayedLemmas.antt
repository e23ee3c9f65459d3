-- What an edit makes anew of kept lines: the whole of it, its places and its count.
use Rattle.std.proofs.Common.{◌≡◌, ℕ, zero, suc, ◌+◌, ◌<◌, ◌≤◌, refl, sym, ap, ◌∙◌, Bool, true, false, not, List, [], ◌∷◌, ◌++◌, append_assoc, append-nil, add_assoc, zero-add, length, get_or, take, drop, map, Option, Some, None, arith}
use Rattle.std.specs.Prelude.{◌&&◌, is_some, unwrap_or, if◌then◌else◌}
use Rattle.std.specs.List.{list_all}
use Rattle.std.proofs.lemmas.Bool.{and_parts}
use Rattle.std.proofs.lemmas.List.{nil_from_length, length-take, length-drop, drop_all}
use Rattle.std.proofs.lemmas.List.Concat.{flat_map-cons}
use Rattle.std.proofs.lemmas.List.Folds.{list_all-append}
use Rattle.std.proofs.lemmas.Grind.{common_steps}
use Rattle.cps_state.specs.Keys.{State, first_state}
use Rattle.cps_state.specs.Course.{Trace}
use Rattle.cps_pass.specs.Expansion.{trace_of}
use Rattle.cps_final.specs.Outcome.{Resolved, Outcome, outcome_of}
use Rattle.cps_final.specs.Naming.{all_named}
use Rattle.cps_final.specs.NamedFinals.{statements_of}
use Rattle.cps_final.specs.Agreeing.{same_at, same_named}
use Rattle.cps_final.specs.Holds.{holds}
use Rattle.cps_final.proofs.AgreeLemmas.{named-alone}
use Rattle.cps_final.proofs.AnswerLemmas.{asks-decide}
use Rattle.cps_chunk.specs.declared.sparse.SparseItem.{SparseItem}
use Rattle.cps_edit.specs.Passes.{after, state_after, traces_from, traces_of, outcomes_by}
use Rattle.cps_edit.specs.Splice.{Splice, spliced}
use Rattle.cps_edit.specs.Disturbed.{Placed, kept, all_kept, fresh, placed, is_disturbed, disturbed_from, is_redone, redone_places, finals_in, ones_of, twos_of}
use Rattle.cps_edit.specs.Renewed.{WasMeant, AllWereMeant, redone_from}
use Rattle.cps_chunk.specs.Sparse.{item_at, one_if, renewed, AreWithin, AgreeFor}
use Rattle.cps_chunk.specs.Replayed.{replayed, redone, flags_at, state_front, state_behind, replayed_behind, redone_front, redone_behind}
use Rattle.cps_edit.proofs.AskedLemmas.{meant-here}
use Rattle.cps_edit.proofs.RedoLemmas.{take-outcomes, drop-outcomes, append-outcomes}
use Rattle.cps_edit.proofs.SpliceLemmas.{length-traces_from, none-disturbed, undisturbed, kept-drop, disturbed-is, traces_from-spliced, AllWereMeant-drop}
use Rattle.cps_edit.proofs.TakenLemmas.{drop_at}
use Rattle.cps_chunk.proofs.SparseLemmas.{AreWithin-wider, AreWithin-append, renewed-drop_front, renewed-drop_behind, renewed-behind_none, take-renewed, drop-renewed, AgreeFor-later, AgreeFor-drop_front, AgreeFor-drop_behind, AgreeFor-drop_both, item_at-one, item_at-past, length-one, AreWithin-one, renewed-none, renewed-one}

-- ---- pass one

-- they stand among the lines
pub replayed-within : (state : State) (i : ℕ) (lines : List (List ℕ)) (olds : List Trace) → AreWithin i (i + length lines) (replayed state i lines olds)
replayed-within state i [] olds = omega arith
replayed-within state i (line ∷ lines) [] = omega arith
replayed-within state i (line ∷ lines) (old ∷ olds) =
    let rest = replayed (after state line) (suc i) lines olds in
    AreWithin-one (is_disturbed (Some old) state) i (i + suc (length lines)) (trace_of line state) rest (omega arith)
    (AreWithin-wider (suc i) (suc i + length lines) (suc i) (i + suc (length lines)) rest (omega arith) (omega arith) (replayed-within (after state line) (suc i) lines olds))

now-here : (line : List ℕ) (old : Trace) (state : State) → WasMeant line old → (if is_disturbed (Some old) state then trace_of line state else old) ≡ trace_of line state
now-here line old state meant = by_test (holds old.asks state) refl
  where
    by_test : (test : Bool) → holds old.asks state ≡ test → (if not test then trace_of line state else old) ≡ trace_of line state
    by_test true is = meant-here line old state meant ((asks-decide old.asks state).0 is)
    by_test false is = refl

-- with these in their places, the traces are those of the lines here
pub renewed-replayed : (state : State) (i : ℕ) (lines : List (List ℕ)) (olds : List Trace) → AllWereMeant lines olds
    → renewed i (replayed state i lines olds) olds ≡ traces_from state lines
renewed-replayed state i [] [] meant = refl
renewed-replayed state i [] (old ∷ olds) meant = absurd meant
renewed-replayed state i (line ∷ lines) [] meant = absurd meant
renewed-replayed state i (line ∷ lines) (old ∷ olds) meant =
    let rest = replayed (after state line) (suc i) lines olds in
    renewed-one (is_disturbed (Some old) state) i (suc i + length lines) (trace_of line state) old rest olds (replayed-within (after state line) (suc i) lines olds)
    ∙ (λ j. now-here line old state meant.0 j ∷ renewed-replayed (after state line) (suc i) lines olds meant.1 j)

-- and there are as many as lines are disturbed
pub length-replayed : (state : State) (i : ℕ) (lines : List (List ℕ)) (olds : List Trace) → length (replayed state i lines olds) ≡ disturbed_from state (kept lines olds)
length-replayed state i [] olds = refl
length-replayed state i (line ∷ lines) [] = refl
length-replayed state i (line ∷ lines) (old ∷ olds) =
    let rest = replayed (after state line) (suc i) lines olds in
    length-one (is_disturbed (Some old) state) i (trace_of line state) rest
    ∙ ap (λ n. (if is_disturbed (Some old) state then 1 else 0) + n) (length-replayed (after state line) (suc i) lines olds)

pub replayed-none : (state : State) (i : ℕ) (lines : List (List ℕ)) (olds : List Trace) → disturbed_from state (kept lines olds) ≡ 0 → replayed state i lines olds ≡ []
replayed-none state i lines olds none = nil_from_length (replayed state i lines olds) (length-replayed state i lines olds ∙ none)

-- nothing is disturbed where the lines stood
pub replayed-still : (state : State) (i : ℕ) (lines : List (List ℕ)) → replayed state i lines (traces_from state lines) ≡ []
replayed-still state i lines = replayed-none state i lines (traces_from state lines) (none-disturbed state lines)

pub replayed-append : (state : State) (i : ℕ) (ls ms : List (List ℕ)) (os ps : List Trace) → length ls ≡ length os
    → replayed state i (ls ++ ms) (os ++ ps) ≡ replayed state i ls os ++ replayed (state_after state ls) (i + length ls) ms ps
replayed-append state i [] ms [] ps len = let at : i ≡ i + 0 = omega arith in ap (λ k. replayed state k ms ps) at
replayed-append state i [] ms (o ∷ os) ps len = absurd (omega (arith, len))
replayed-append state i (l ∷ ls) ms [] ps len = absurd (omega (arith, len))
replayed-append state i (l ∷ ls) ms (o ∷ os) ps len =
    let one = one_if (is_disturbed (Some o) state) i (trace_of l state) in
    let rest = replayed (after state l) (suc i) ls os in
    let end = state_after (after state l) ls in
    let at : suc i + length ls ≡ i + suc (length ls) = omega arith in
    ap (λ us. one ++ us) (replayed-append (after state l) (suc i) ls ms os ps (omega (arith, len)) ∙ ap (λ k. rest ++ replayed end k ms ps) at)
    ∙ sym (append_assoc one rest (replayed end (i + suc (length ls)) ms ps))

is_some-if : (test : Bool) (x : Trace) → is_some (if test then Some x else None) ≡ test
is_some-if true x = refl
is_some-if false x = refl

-- ---- pass two

module _ (was now : Resolved) where
  pub redone-within : (i : ℕ) (news : List (SparseItem Trace)) (olds : List Trace) → AreWithin i (i + length olds) (redone was now i news olds)
  redone-within i news [] = omega arith
  redone-within i news (old ∷ olds) =
      let rest = redone was now (suc i) news olds in
      AreWithin-one (is_redone was now (is_some (item_at news i)) old) i (i + suc (length olds)) (outcome_of now (unwrap_or (item_at news i) old)) rest (omega arith)
      (AreWithin-wider (suc i) (suc i + length olds) (suc i) (i + suc (length olds)) rest (omega arith) (omega arith) (redone-within (suc i) news olds))

  made-here : (old : Trace) (new : Option Trace)
      → (if is_redone was now (is_some new) old then outcome_of now (unwrap_or new old) else outcome_of was old) ≡ outcome_of now (unwrap_or new old)
  made-here old (Some new) = refl
  made-here old None = by_test (same_named was now old.items) refl
    where
      by_test : (test : Bool) → same_named was now old.items ≡ test → (if not test then outcome_of now old else outcome_of was old) ≡ outcome_of now old
      by_test true is = named-alone was now old is
      by_test false is = refl

  -- with these in their places, the outcomes are those of the traces now
  pub renewed-redone : (i : ℕ) (news : List (SparseItem Trace)) (olds : List Trace) → renewed i (redone was now i news olds) (outcomes_by was olds) ≡ outcomes_by now (renewed i news olds)
  renewed-redone i news [] = refl
  renewed-redone i news (old ∷ olds) =
      let rest = redone was now (suc i) news olds in
      renewed-one (is_redone was now (is_some (item_at news i)) old) i (suc i + length olds) (outcome_of now (unwrap_or (item_at news i) old)) (outcome_of was old) rest (outcomes_by was olds)
      (redone-within (suc i) news olds)
      ∙ (λ j. made-here old (item_at news i) j ∷ renewed-redone (suc i) news olds j)

  -- only what is new at their places matters
  pub redone-agree : (i : ℕ) (ns ms : List (SparseItem Trace)) (olds : List Trace) → AgreeFor i (length olds) ns ms → redone was now i ns olds ≡ redone was now i ms olds
  redone-agree i ns ms [] agree = refl
  redone-agree i ns ms (old ∷ olds) agree =
      let here : item_at ns i ≡ item_at ms i = agree i (omega arith) (omega arith) in
      λ j. one_if (is_redone was now (is_some (here j)) old) i (outcome_of now (unwrap_or (here j) old))
      ++ redone-agree (suc i) ns ms olds (AgreeFor-later i (length olds) ns ms agree) j

  pub redone-drop_front : (a b i : ℕ) (ns ms : List (SparseItem Trace)) (olds : List Trace) → AreWithin a b ns → b ≤ i → redone was now i (ns ++ ms) olds ≡ redone was now i ms olds
  redone-drop_front a b i ns ms olds within le = redone-agree i (ns ++ ms) ms olds (AgreeFor-drop_front a b i (length olds) ns ms within le)

  pub redone-drop_behind : (a b i : ℕ) (ns ms : List (SparseItem Trace)) (olds : List Trace) → AreWithin a b ms → i + length olds ≤ a → redone was now i (ns ++ ms) olds ≡ redone was now i ns olds
  redone-drop_behind a b i ns ms olds within le = redone-agree i (ns ++ ms) ns olds (AgreeFor-drop_behind a b i (length olds) ns ms within le)

  pub redone-append : (i : ℕ) (news : List (SparseItem Trace)) (os ps : List Trace) → redone was now i news (os ++ ps) ≡ redone was now i news os ++ redone was now (i + length os) news ps
  redone-append i news [] ps = let at : i ≡ i + 0 = omega arith in ap (λ k. redone was now k news ps) at
  redone-append i news (o ∷ os) ps =
      let one = one_if (is_redone was now (is_some (item_at news i)) o) i (outcome_of now (unwrap_or (item_at news i) o)) in
      let rest = redone was now (suc i) news os in
      let at : suc i + length os ≡ i + suc (length os) = omega arith in
      ap (λ us. one ++ us) (redone-append (suc i) news os ps ∙ ap (λ k. rest ++ redone was now k news ps) at)
      ∙ sym (append_assoc one rest (redone was now (i + suc (length os)) news ps))

  -- one line more
  pub redone-next : (news : List (SparseItem Trace)) (olds : List Trace) (i j k : ℕ) (old : Trace) (made e : List (SparseItem Outcome)) → i < length olds → old ≡ get_or olds i old → k ≡ suc j
      → made ++ redone was now j news (drop i olds) ≡ e
      → (made ++ one_if (is_redone was now (is_some (item_at news j)) old) j (outcome_of now (unwrap_or (item_at news j) old))) ++ redone was now k news (drop (i + 1) olds) ≡ e
  redone-next news olds i j k old made e lt is at before =
      let one = one_if (is_redone was now (is_some (item_at news j)) old) j (outcome_of now (unwrap_or (item_at news j) old)) in
      append_assoc made one (redone was now k news (drop (i + 1) olds))
      ∙ ap (λ n. made ++ (one ++ redone was now n news (drop (i + 1) olds))) at
      ∙ sym (ap (λ xs. made ++ redone was now j news xs) (drop_at olds i old lt is))
      ∙ before

  pub redone-done : (news : List (SparseItem Trace)) (olds : List Trace) (i j : ℕ) (made e : List (SparseItem Outcome)) → length olds ≤ i → made ++ redone was now j news (drop i olds) ≡ e → made ≡ e
  redone-done news olds i j made e past before =
      sym (append-nil made) ∙ sym (ap (λ xs. made ++ redone was now j news xs) (drop_all i olds past)) ∙ before

  -- ---- nothing is redone of lines that do what they did, where all that they name has the same final values

  redone-same : (i : ℕ) (olds : List Trace) → list_all (λ (old : Trace). same_named was now old.items) olds ≡ true → redone was now i [] olds ≡ []
  redone-same i [] same = refl
  redone-same i (old ∷ olds) same =
      let parts = and_parts (same_named was now old.items) (list_all (λ (t : Trace). same_named was now t.items) olds) same in
      ap (λ test. one_if (not test) i (outcome_of now old) ++ redone was now (suc i) [] olds) parts.0 ∙ redone-same (suc i) olds parts.1

  pub redone-each_same : (i : ℕ) (news : List (SparseItem Trace)) (olds : List Trace) → list_all (λ (old : Trace). same_named was now old.items) olds ≡ true
      → AgreeFor i (length olds) news [] → redone was now i news olds ≡ []
  redone-each_same i news olds same none = redone-agree i news [] olds none ∙ redone-same i olds same

  same-each : (olds : List Trace) → same_named was now (statements_of olds) ≡ list_all (λ (old : Trace). same_named was now old.items) olds
  same-each [] = refl
  same-each (old ∷ olds) =
      let test = all_named (same_at was now) in
      ap (list_all test) (flat_map-cons (λ (t : Trace). t.items) old olds) ∙ list_all-append test old.items (statements_of olds)
      ∙ ap (λ rest. same_named was now old.items && rest) (same-each olds)

  pub redone-all_same : (i : ℕ) (news : List (SparseItem Trace)) (olds : List Trace) → same_named was now (statements_of olds) ≡ true
      → AgreeFor i (length olds) news [] → redone was now i news olds ≡ []
  redone-all_same i news olds same none = redone-each_same i news olds (sym (same-each olds) ∙ same) none

  -- ---- how many are redone

  pub length-redone : (i : ℕ) (news : List (SparseItem Trace)) (olds : List Trace) → length (redone was now i news olds) ≡ redone_from was now (flags_at i (length olds) news) olds
  length-redone i news [] = refl
  length-redone i news (old ∷ olds) =
      let test = is_redone was now (is_some (item_at news i)) old in
      length-one test i (outcome_of now (unwrap_or (item_at news i) old)) (redone was now (suc i) news olds)
      ∙ ap (λ n. (if test then 1 else 0) + n) (length-redone (suc i) news olds)

  -- where pass one made these of them
  pub count-redone : (state : State) (i : ℕ) (news : List (SparseItem Trace)) (lines : List (List ℕ)) (olds : List Trace) → length lines ≡ length olds
      → AgreeFor i (length olds) news (replayed state i lines olds) → length (redone was now i news olds) ≡ redone_places was now state (kept lines olds)
  count-redone state i news [] [] len agree = refl
  count-redone state i news [] (old ∷ olds) len agree = absurd (omega (arith, len))
  count-redone state i news (line ∷ lines) [] len agree = absurd (omega (arith, len))
  count-redone state i news (line ∷ lines) (old ∷ olds) len agree =
      let test = is_redone was now (is_some (item_at news i)) old in
      let disturbed = is_disturbed (Some old) state in
      let rest = replayed (after state line) (suc i) lines olds in
      let at : item_at news i ≡ (if disturbed then Some (trace_of line state) else None) =
      agree i (omega arith) (omega arith) ∙ item_at-one disturbed i (suc i + length lines) (trace_of line state) rest (replayed-within (after state line) (suc i) lines olds) in
      let here : is_some (item_at news i) ≡ disturbed = ap is_some at ∙ is_some-if disturbed (trace_of line state) in
      let later : AgreeFor (suc i) (length olds) news rest = λ k low high.
      agree k (omega (arith, low)) (omega (arith, high)) ∙ item_at-past disturbed i k (trace_of line state) rest low in
      length-one test i (outcome_of now (unwrap_or (item_at news i) old)) (redone was now (suc i) news olds)
      ∙ (λ j. (if is_redone was now (here j) old then 1 else 0) + count-redone (after state line) (suc i) news lines olds (omega (arith, len)) later j)

  pub count-redone_alone : (state : State) (i : ℕ) (lines : List (List ℕ)) (olds : List Trace) → length lines ≡ length olds
      → length (redone was now i (replayed state i lines olds) olds) ≡ redone_places was now state (kept lines olds)
  count-redone_alone state i lines olds len = count-redone state i (replayed state i lines olds) lines olds len (λ k low high. refl)

  pub count-redone_among : (a b c d i : ℕ) (state : State) (front behind : List (SparseItem Trace)) (lines : List (List ℕ)) (olds : List Trace) → length lines ≡ length olds
      → AreWithin a b front → b ≤ i → AreWithin c d behind → i + length olds ≤ c
      → length (redone was now i (front ++ (replayed state i lines olds ++ behind)) olds) ≡ redone_places was now state (kept lines olds)
  count-redone_among a b c d i state front behind lines olds len before low after_them high =
      let news = replayed state i lines olds in
      count-redone state i (front ++ (news ++ behind)) lines olds len (AgreeFor-drop_both a b c d i (length olds) front news behind before low after_them high)

  -- ---- a whole edit

  -- in front of it no line is disturbed in pass one
  redone_places-front : (n i : ℕ) (state : State) (lines : List (List ℕ)) (places : List Placed) → redone_places was now state (take n (kept lines (traces_from state lines)) ++ places)
      ≡ length (redone was now i [] (take n (traces_from state lines))) + redone_places was now (state_after state (take n lines)) places
  redone_places-front zero i state lines places = sym (zero-add (redone_places was now state places))
  redone_places-front (suc n) i state [] places = sym (zero-add (redone_places was now state places))
  redone_places-front (suc n) i state (line ∷ lines) places =
      let old = trace_of line state in
      let one : ℕ = if is_redone was now false old then 1 else 0 in
      let rest = redone was now (suc i) [] (take n (traces_from (after state line) lines)) in
      let last = redone_places was now (state_after (after state line) (take n lines)) places in
      ap (λ test. (if is_redone was now test old then 1 else 0) + redone_places was now (after state line) (take n (kept lines (traces_from (after state line) lines)) ++ places)) (undisturbed line state)
      ∙ ap (λ k. one + k) (redone_places-front n (suc i) (after state line) lines places)
      ∙ sym (add_assoc one (length rest) last)
      ∙ ap (λ k. k + last) (sym (length-one (is_redone was now false old) i (outcome_of now old) rest))

  redone_places-new : (state : State) (new : List (List ℕ)) (places : List Placed) → redone_places was now state (map fresh new ++ places) ≡ length new + redone_places was now (state_after state new) places
  redone_places-new state [] places = omega arith
  redone_places-new state (line ∷ new) places = omega (arith, redone_places-new (after state line) new places)

module _ (lines : List (List ℕ)) (splice : Splice) where
  pub ones-spliced : ones_of lines splice ≡ length splice.new + length (replayed_behind lines splice)
  ones-spliced =
      disturbed-is lines splice.new splice.keep splice.from
      ∙ ap (λ n. length splice.new + n) (sym (length-replayed (state_behind lines splice) splice.from (drop splice.from lines) (drop splice.from (traces_of lines))))

  pub traces-spliced : traces_of (spliced lines splice)
      ≡ take splice.keep (traces_of lines) ++ (traces_from (state_front lines splice) splice.new ++ renewed splice.from (replayed_behind lines splice) (drop splice.from (traces_of lines)))
  traces-spliced =
      sym (traces_from-spliced lines splice.new splice.keep splice.from _ _ refl
      (renewed-replayed (state_behind lines splice) splice.from (drop splice.from lines) (drop splice.from (traces_of lines)) (AllWereMeant-drop splice.from first_state lines)))

  as_many : length (drop splice.from lines) ≡ length (drop splice.from (traces_of lines))
  as_many = grind (arith, common_steps, length-traces_from first_state lines)

  -- they stand among the lines that were there behind the splice
  pub replayed_behind-within : splice.from ≤ length lines → AreWithin splice.from (length lines) (replayed_behind lines splice)
  replayed_behind-within le =
      let news = replayed_behind lines splice in
      let end : splice.from + length (drop splice.from lines) ≤ length lines = omega (arith, le, length-drop splice.from lines) in
      AreWithin-wider splice.from _ splice.from (length lines) news (omega arith) end
      (replayed-within (state_behind lines splice) splice.from (drop splice.from lines) (drop splice.from (traces_of lines)))

  -- put at their places first
  pub traces-put : splice.keep ≤ splice.from → splice.from ≤ length lines
      → take splice.keep (renewed 0 (replayed_behind lines splice) (traces_of lines))
      ++ (traces_from (state_front lines splice) splice.new ++ drop splice.from (renewed 0 (replayed_behind lines splice) (traces_of lines)))
      ≡ traces_of (spliced lines splice)
  traces-put ordered le =
      let news = replayed_behind lines splice in
      let ts = traces_of lines in
      let few : 0 + length (take splice.keep ts) ≤ splice.from = omega (arith, ordered, length-take splice.keep ts) in
      let at : 0 + splice.from ≡ splice.from = omega arith in
      let front = take-renewed splice.keep 0 news ts ∙ renewed-behind_none splice.from (length lines) 0 news (take splice.keep ts) (replayed_behind-within le) few in
      let back = drop-renewed splice.from 0 news ts ∙ ap (λ k. renewed k news (drop splice.from ts)) at in
      (λ j. front j ++ (traces_from (state_front lines splice) splice.new ++ back j)) ∙ sym traces-spliced

  module _ (was now : Resolved) where
    redone_places-spliced : redone_places was now first_state (placed lines splice)
        ≡ length (redone_front was now lines splice) + (length splice.new + length (redone_behind was now lines splice))
    redone_places-spliced =
        let front = length (redone_front was now lines splice) in
        redone_places-front was now splice.keep 0 first_state lines (map fresh splice.new ++ drop splice.from (all_kept lines))
        ∙ ap (λ n. front + n) (redone_places-new was now (state_front lines splice) splice.new (drop splice.from (all_kept lines))
        ∙ ap (λ n. length splice.new + n) (ap (redone_places was now (state_behind lines splice)) (kept-drop splice.from lines (traces_of lines))
        ∙ sym (count-redone_alone was now (state_behind lines splice) splice.from (drop splice.from lines) (drop splice.from (traces_of lines)) as_many)))

    pub twos-spliced : was ≡ finals_in lines → now ≡ finals_in (spliced lines splice)
        → twos_of lines splice ≡ length (redone_front was now lines splice) + (length splice.new + length (redone_behind was now lines splice))
    twos-spliced before behind =
        ap (λ (e : Resolved). redone_places e (finals_in (spliced lines splice)) first_state (placed lines splice)) (sym before)
        ∙ ap (λ (e : Resolved). redone_places was e first_state (placed lines splice)) (sym behind)
        ∙ redone_places-spliced

    pub outcomes-spliced : (outcomes : List Outcome) → outcomes ≡ outcomes_by was (traces_of lines) → outcomes_by now (traces_of (spliced lines splice))
        ≡ renewed 0 (redone_front was now lines splice) (take splice.keep outcomes)
        ++ (outcomes_by now (traces_from (state_front lines splice) splice.new) ++ renewed splice.from (redone_behind was now lines splice) (drop splice.from outcomes))
    outcomes-spliced outcomes is =
        let front = take splice.keep (traces_of lines) in
        let back = drop splice.from (traces_of lines) in
        let firsts = traces_from (state_front lines splice) splice.new in
        let news = replayed_behind lines splice in
        let lasts = renewed splice.from news back in
        let one = renewed-redone was now 0 [] front ∙ ap (outcomes_by now) (renewed-none 0 front) in
        let two = renewed-redone was now splice.from news back in
        ap (outcomes_by now) traces-spliced ∙ append-outcomes now front (firsts ++ lasts)
        ∙ ap (λ xs. outcomes_by now front ++ xs) (append-outcomes now firsts lasts)
        ∙ (λ j. sym one j ++ (outcomes_by now firsts ++ sym two j))
        ∙ sym (λ j. renewed 0 (redone_front was now lines splice) ((ap (take splice.keep) is ∙ take-outcomes splice.keep was (traces_of lines)) j)
        ++ (outcomes_by now firsts ++ renewed splice.from (redone_behind was now lines splice) ((ap (drop splice.from) is ∙ drop-outcomes splice.from was (traces_of lines)) j)))

    redone_front-within : splice.keep ≤ splice.from → AreWithin 0 splice.from (redone_front was now lines splice)
    redone_front-within ordered =
        let front = take splice.keep (traces_of lines) in
        let few : 0 + length front ≤ splice.from = omega (arith, ordered, length-take splice.keep (traces_of lines)) in
        AreWithin-wider 0 (0 + length front) 0 splice.from (redone_front was now lines splice) (omega arith) few (redone-within was now 0 [] front)

    redone_behind-within : splice.from ≤ length lines → AreWithin splice.from (length lines) (redone_behind was now lines splice)
    redone_behind-within le =
        let back = drop splice.from (traces_of lines) in
        let end : splice.from + length back ≤ length lines = omega (arith, le, length-drop splice.from (traces_of lines), length-traces_from first_state lines) in
        AreWithin-wider splice.from (splice.from + length back) splice.from (length lines) (redone_behind was now lines splice) (omega arith) end
        (redone-within was now splice.from (replayed_behind lines splice) back)

    -- both stand among the lines that were there
    pub redone-within_all : splice.keep ≤ splice.from → splice.from ≤ length lines → AreWithin 0 (length lines) (redone_front was now lines splice ++ redone_behind was now lines splice)
    redone-within_all ordered le = AreWithin-append 0 splice.from (length lines) _ _ (redone_front-within ordered) (redone_behind-within le)

    -- put at their places first
    pub outcomes-put : (outcomes : List Outcome) → outcomes ≡ outcomes_by was (traces_of lines) → splice.keep ≤ splice.from → splice.from ≤ length lines
        → take splice.keep (renewed 0 (redone_front was now lines splice ++ redone_behind was now lines splice) outcomes)
        ++ (outcomes_by now (traces_from (state_front lines splice) splice.new) ++ drop splice.from (renewed 0 (redone_front was now lines splice ++ redone_behind was now lines splice) outcomes))
        ≡ outcomes_by now (traces_of (spliced lines splice))
    outcomes-put outcomes is ordered le =
        let ones = redone_front was now lines splice in
        let twos = redone_behind was now lines splice in
        let few : 0 + length (take splice.keep outcomes) ≤ splice.from = omega (arith, ordered, length-take splice.keep outcomes) in
        let at : 0 + splice.from ≡ splice.from = omega arith in
        let front = take-renewed splice.keep 0 (ones ++ twos) outcomes
        ∙ renewed-drop_behind splice.from (length lines) 0 ones twos (take splice.keep outcomes) (redone_behind-within le) few in
        let back = drop-renewed splice.from 0 (ones ++ twos) outcomes ∙ ap (λ k. renewed k (ones ++ twos) (drop splice.from outcomes)) at
        ∙ renewed-drop_front 0 splice.from splice.from ones twos (drop splice.from outcomes) (redone_front-within ordered) (omega arith) in
        (λ j. front j ++ (outcomes_by now (traces_from (state_front lines splice) splice.new) ++ back j)) ∙ sym (outcomes-spliced outcomes is)
