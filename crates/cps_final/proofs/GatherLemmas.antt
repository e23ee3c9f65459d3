-- What is gathered of some lines, and of one line more.
use Rattle.std.proofs.Common.{◌≡◌, ℕ, Bool, true, false, not, ◌||◌, List, [], ◌∷◌, ◌++◌, filter, Option, None, Some, max, refl, sym, ap, ◌∙◌, append-nil, append_assoc, arith, Result, Ok, Err}
use Rattle.std.specs.Prelude.{OnErr, flat_map, nat_eq, if◌then◌else◌}
use Rattle.std.specs.Cmp.{IsEquivalence, nat_eq_equiv}
use Rattle.std.specs.List.{list_any}
use Rattle.std.specs.Option.{option_or}
use Rattle.std.proofs.lemmas.Grind.{flat_map-append}
use Rattle.std.proofs.lemmas.List.Elements.{filter-append}
use Rattle.std.proofs.lemmas.Map.Views.{any-filter_same}
use Rattle.indexmap.specs.IndexSet.{insert_key, insert_all}
use Rattle.cps_text.specs.declared.name.Name.{Name}
use Rattle.cps_expr.specs.Value.{same_name}
use Rattle.cps_state.specs.declared.key.Put.{Put}
use Rattle.cps_state.specs.Course.{Trace}
use Rattle.cps_state.specs.Keys.{State, first_state, overwritten, with_put}
use Rattle.cps_final.specs.Distinct.{distinct}
use Rattle.cps_final.specs.Layout.{Layout, puts_of, words_put, size_in, named_by, names_put, named_blocks, layout_of}
use Rattle.cps_final.specs.Pool.{literals_in, pool_of}
use Rattle.cps_final.specs.Finals.{Finals, first_program, program_of, finals_of}
use Rattle.cps_final.specs.Code.Gathering.{grown, grown_by}
use Rattle.cps_final.proofs.BlockLemmas.{same_name-laws}

-- ---- distinct elements

module _ {T : Type 0} (eq : T → T → Bool) (laws : IsEquivalence eq) where
  inserted : (ks : List T) (y : T) (there : Bool) → list_any (eq y) ks ≡ there → insert_key eq ks y ≡ (if there then ks else ks ++ y ∷ [])
  inserted ks y there found = ap (λ (b : Bool). if b then ks else ks ++ y ∷ []) found

  others : T → List T → List T
  others x ks = filter (λ z. not (eq x z)) ks

  -- the elements that don't equal the first, with one more
  others-more : (x y : T) (ks : List T) (same : Bool) → eq x y ≡ same → others x (ks ++ y ∷ []) ≡ others x ks ++ (if not same then y ∷ [] else [])
  unfolding others
  others-more x y ks same is = filter-append (λ z. not (eq x z)) ks (y ∷ []) ∙ ap (λ (b : Bool). filter (λ z. not (eq x z)) ks ++ (if not b then y ∷ [] else [])) is

  first_is : (x y : T) (ks : List T) → eq x y ≡ true → x ∷ others x ks ≡ insert_key eq (x ∷ others x ks) y
  first_is x y ks is = sym (inserted (x ∷ others x ks) y true (ap (λ (b : Bool). b || list_any (eq y) (others x ks)) (laws.symm y x ∙ is)))

  among_others : (x y : T) (ks : List T) → eq x y ≡ false → list_any (eq y) (x ∷ others x ks) ≡ list_any (eq y) ks
  unfolding others
  among_others x y ks is =
      ap (λ (b : Bool). b || list_any (eq y) (filter (λ z. not (eq x z)) ks)) (laws.symm y x ∙ is)
      ∙ any-filter_same (eq y) (λ z. not (eq x z)) true (λ k hit. ap not (laws.symm x k ∙ sym (laws.congr y k x hit) ∙ laws.symm y x ∙ is)) ks

  -- an element that equals the first is left out, and any other goes after the rest if it isn't there
  after_first : (x y : T) (ks : List T) (same : Bool) → eq x y ≡ same → (there : Bool) → list_any (eq y) ks ≡ there
      → x ∷ others x (if there then ks else ks ++ y ∷ []) ≡ insert_key eq (x ∷ others x ks) y
  after_first x y ks true is true found = first_is x y ks is
  after_first x y ks true is false found = ap (λ (l : List T). x ∷ l) (others-more x y ks true is ∙ append-nil (others x ks)) ∙ first_is x y ks is
  after_first x y ks false is true found = sym (inserted (x ∷ others x ks) y true (among_others x y ks is ∙ found))
  after_first x y ks false is false found =
      ap (λ (l : List T). x ∷ l) (others-more x y ks false is) ∙ sym (inserted (x ∷ others x ks) y false (among_others x y ks is ∙ found))

  distinct-more : (xs : List T) (y : T) → distinct eq (xs ++ y ∷ []) ≡ insert_key eq (distinct eq xs) y
  unfolding others
  distinct-more [] y = refl
  distinct-more (x ∷ xs) y =
      ap (λ (ks : List T). x ∷ filter (λ z. not (eq x z)) ks) (distinct-more xs y) ∙ after_first x y (distinct eq xs) (eq x y) refl (list_any (eq y) (distinct eq xs)) refl

  pub distinct-append : (xs ys : List T) → distinct eq (xs ++ ys) ≡ insert_all eq (distinct eq xs) ys
  distinct-append xs [] = ap (distinct eq) (append-nil xs)
  distinct-append xs (y ∷ ys) =
      ap (distinct eq) (sym (append_assoc xs (y ∷ []) ys)) ∙ distinct-append (xs ++ y ∷ []) ys ∙ ap (λ (ks : List T). insert_all eq ks ys) (distinct-more xs y)

-- ---- blocks

size-more : (puts : List Put) (p : Put) (block : Option Name) → max (size_in puts block) (words_put block p) ≡ size_in (puts ++ p ∷ []) block
size-more [] p block = omega arith
size-more (q ∷ puts) p block = omega (arith, size-more puts p block)

layout-more : (puts : List Put) (p : Put) → grown (layout_of puts) p ≡ layout_of (puts ++ p ∷ [])
layout-more puts p =
    let names : names_put (puts ++ p ∷ []) ≡ names_put puts ++ named_by p.key = flat_map-append (λ (q : Put). named_by q.key) puts (p ∷ []) ∙ ap (λ (l : List Name). names_put puts ++ l) (append-nil (named_by p.key)) in
    let named : named_blocks (puts ++ p ∷ []) ≡ insert_all same_name (named_blocks puts) (named_by p.key) =
    ap (distinct same_name) names ∙ distinct-append same_name same_name-laws (names_put puts) (named_by p.key) in
    λ i. record { named = sym named i; size = λ block. size-more puts p block i }

layout-append : (puts more : List Put) → grown_by (layout_of puts) more ≡ layout_of (puts ++ more)
layout-append puts [] = ap layout_of (sym (append-nil puts))
layout-append puts (p ∷ more) =
    ap (λ (l : Layout). grown_by l more) (layout-more puts p) ∙ layout-append (puts ++ p ∷ []) more ∙ ap layout_of (append_assoc puts (p ∷ []) more)

-- ---- the state, the program's name and the pool

overwritten-append : (state : State) (puts more : List Put) → overwritten state (puts ++ more) ≡ overwritten (overwritten state puts) more
overwritten-append state [] more = refl
overwritten-append state (p ∷ puts) more = overwritten-append (with_put state p) puts more

puts-more : (traces : List Trace) (trace : Trace) → puts_of (traces ++ trace ∷ []) ≡ puts_of traces ++ trace.puts
puts-more traces trace = flat_map-append (λ (t : Trace). t.puts) traces (trace ∷ []) ∙ ap (λ (l : List Put). puts_of traces ++ l) (append-nil trace.puts)

pub or-assoc : {T : Type 0} (a b c : Option T) → option_or (option_or a b) c ≡ option_or a (option_or b c)
or-assoc None b c = refl
or-assoc (Some x) b c = refl

or-none : {T : Type 0} (a : Option T) → option_or a None ≡ a
or-none None = refl
or-none (Some x) = refl

program-more : (traces : List Trace) (trace : Trace) → option_or (program_of traces) (first_program trace.items) ≡ program_of (traces ++ trace ∷ [])
program-more [] trace = sym (or-none (first_program trace.items))
program-more (t ∷ traces) trace =
    or-assoc (first_program t.items) (program_of traces) (first_program trace.items) ∙ ap (option_or (first_program t.items)) (program-more traces trace)

pool-more : (traces : List Trace) (trace : Trace) → insert_all nat_eq (pool_of traces) (literals_in trace) ≡ pool_of (traces ++ trace ∷ [])
pool-more traces trace =
    sym (ap (distinct nat_eq) (flat_map-append literals_in traces (trace ∷ []) ∙ ap (λ (l : List ℕ). flat_map literals_in traces ++ l) (append-nil (literals_in trace)))
    ∙ distinct-append nat_eq nat_eq_equiv (flat_map literals_in traces) (literals_in trace))

-- ---- all of it

pub gathered-more : (old new : Finals) (trace : Trace)
    → new.state ≡ overwritten old.state trace.puts → new.layout ≡ grown_by old.layout trace.puts → new.pool ≡ insert_all nat_eq old.pool (literals_in trace)
    → new.program ≡ option_or old.program (first_program trace.items)
    → (traces : List Trace) → old ≡ finals_of traces → new ≡ finals_of (traces ++ trace ∷ [])
gathered-more old new trace state layout pool program traces was =
    let puts = puts-more traces trace in
    let state-now : new.state ≡ overwritten first_state (puts_of (traces ++ trace ∷ [])) =
    state ∙ ap (λ (f : Finals). overwritten f.state trace.puts) was ∙ sym (ap (overwritten first_state) puts ∙ overwritten-append first_state (puts_of traces) trace.puts) in
    let layout-now : new.layout ≡ layout_of (puts_of (traces ++ trace ∷ [])) =
    layout ∙ ap (λ (f : Finals). grown_by f.layout trace.puts) was ∙ layout-append (puts_of traces) trace.puts ∙ sym (ap layout_of puts) in
    let pool-now : new.pool ≡ pool_of (traces ++ trace ∷ []) = pool ∙ ap (λ (f : Finals). insert_all nat_eq f.pool (literals_in trace)) was ∙ pool-more traces trace in
    let program-now : new.program ≡ program_of (traces ++ trace ∷ []) =
    program ∙ ap (λ (f : Finals). option_or f.program (first_program trace.items)) was ∙ program-more traces trace in
    λ i. record { state = state-now i; layout = layout-now i; pool = pool-now i; program = program-now i }

pub same-finals : (a b : Finals) → a.state ≡ b.state → a.layout ≡ b.layout → a.pool ≡ b.pool → a.program ≡ b.program → a ≡ b
same-finals a b state layout pool program = λ i. record { state = state i; layout = layout i; pool = pool i; program = program i }

-- another state, and the rest the same
pub same-but-state : (a b : Finals) (s t : State) → a ≡ b → s ≡ t → record a { state = s } ≡ record b { state = t }
same-but-state a b s t rest state = λ i. record (rest i) { state = state i }

pub on_err : {T E P : Type 0} (r : Result T E) → P → OnErr r P
on_err (Ok x) p = tt
on_err (Err e) p = p

-- the same of blocks, pool and name alone
pub stored-more : (old new : Finals) (trace : Trace)
    → new.layout ≡ grown_by old.layout trace.puts → new.pool ≡ insert_all nat_eq old.pool (literals_in trace) → new.program ≡ option_or old.program (first_program trace.items)
    → (traces : List Trace) → record old { state = first_state } ≡ record (finals_of traces) { state = first_state }
    → record new { state = first_state } ≡ record (finals_of (traces ++ trace ∷ [])) { state = first_state }
stored-more old new trace layout pool program traces was =
    let before : State = overwritten first_state (puts_of traces) in
    let more = gathered-more (record old { state = before }) (record new { state = overwritten before trace.puts }) trace refl layout pool program traces
    (ap (λ (f : Finals). record f { state = before }) was) in
    ap (λ (f : Finals). record f { state = first_state }) more
