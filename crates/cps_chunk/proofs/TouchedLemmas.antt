-- What both passes of an edit compare: no more than twice the lines of the chunks that the edit touches.
use Rattle.std.proofs.Common.{arith, ◌≡◌, ℕ, ◌+◌, ◌*◌, ◌≤◌, refl, sym, ap, subst, ◌∙◌, Bool, true, false, List, [], ◌∷◌, ◌++◌, length, take, drop, map, Some}
use Rattle.std.specs.Prelude.{not, ◌&&◌, nat_eq, sum, if◌then◌else◌}
use Rattle.std.proofs.lemmas.List.{length-drop, length-take-le, take-take, drop-drop, take-append-le}
use Rattle.cps_state.specs.Course.{Trace}
use Rattle.cps_state.specs.Keys.{State, first_state}
use Rattle.cps_final.specs.Outcome.{Resolved}
use Rattle.cps_chunk.specs.Recut.{recut}
use Rattle.cps_final.specs.NamedFinals.{statements_of, names_in}
use Rattle.cps_final.proofs.NamesLemmas.{names-law}
use Rattle.cps_final.specs.Agreeing.{same_at, same_named}
use Rattle.cps_final.specs.Holds.{holds}
use Rattle.cps_final.specs.Run.{run_of}
use Rattle.cps_edit.specs.Disturbed.{kept, disturbed_from, finals_in}
use Rattle.cps_edit.specs.Passes.{state_after, traces_from, traces_of}
use Rattle.cps_edit.specs.Splice.{Splice, spliced}
use Rattle.cps_edit.proofs.SpliceLemmas.{length-traces_from, take-traces_from, drop-traces_from, none-disturbed}
use Rattle.cps_chunk.specs.declared.sparse.SparseItem.{SparseItem}
use Rattle.cps_chunk.specs.Code.Redo.{is_passed}
use Rattle.cps_chunk.specs.Code.Walk.{looks_over}
use Rattle.cps_chunk.specs.Replayed.{replayed, state_behind, replayed_behind}
use Rattle.cps_chunk.proofs.ReplayedLemmas.{replayed-none}
use Rattle.cps_chunk.proofs.RunLemmas.{run-law, asks-no-more}
use Rattle.cps_chunk.specs.Code.Looks.{items_from, looks_again, LooksLaw}
use Rattle.cps_chunk.specs.Code.Recuts.{Recuts}
use Rattle.cps_chunk.specs.Touched.{cut, is_touched, touched_from, touched_of}
use Rattle.cps_chunk.proofs.CutLemmas.{sum-cons, sum-parts, cut-within, AreShort, chunks-short, short-take, short-drop, short-first, short-second, short-sum}
use Rattle.cps_chunk.proofs.ItemLemmas.{replayed-before, replayed-from}
use Rattle.cps_chunk.proofs.PartLemmas.{loose_behind, touched_front, touched_behind, touched-parts}

-- ---- what is looked at of a chunk, and whether it is touched

one-kept : (held same : Bool) (n : ℕ) → held ≡ true → n ≤ 64 → (if same then 0 else n) ≤ 64 * (if not (held && same) then 1 else 0)
one-kept held same n sure le = subst (λ (b : Bool). (if same then 0 else n) ≤ 64 * (if not (b && same) then 1 else 0)) (sym sure) (at same)
  where
    at : (s : Bool) → (if s then 0 else n) ≤ 64 * (if not s then 1 else 0)
    at true = omega arith
    at false = omega (arith, le)

none-or-few : (none : Bool) (n : ℕ) → n ≤ 64 → (if none then 0 else n) ≤ 64
none-or-few true n le = omega arith
none-or-few false n le = le

one-behind : (held same none : Bool) (n : ℕ) → (held ≡ true → none ≡ true) → n ≤ 64
    → (if held then 0 else n) + (if none && same then 0 else n) ≤ 128 * (if not (held && same) then 1 else 0)
one-behind true true none n still le = subst (λ (b : Bool). 0 + (if b && true then 0 else n) ≤ 128 * 0) (sym (still refl)) (omega arith)
one-behind true false none n still le = omega (arith, none-or-few (none && false) n le)
one-behind false same none n still le = omega (arith, le, none-or-few (none && same) n le)

add-kept : (a b y z : ℕ) → a ≤ 64 * y → b ≤ 64 * z → a + b ≤ 64 * (y + z)
add-kept a b y z p q = omega arith

one-and-rest : (a b c d y z : ℕ) → a + c ≤ 128 * y → b + d ≤ 128 * z → (a + b) + (c + d) ≤ 128 * (y + z)
one-and-rest a b c d y z le rest = omega arith

module _ (was now : Resolved) where
  -- one whose lines do what they did
  kept-touched : (f : State) (n : ℕ) (ls : List (List ℕ)) (os : List Trace) → os ≡ traces_from f ls → n ≤ 64
      → (if is_passed was now (names_in os) [] then 0 else n) ≤ 64 * (if is_touched was now f (Some os) then 1 else 0)
  kept-touched f n ls os done le =
      let held : holds (run_of os).asks f ≡ true = ap (λ (ts : List Trace). holds (run_of ts).asks f) done ∙ asks-no-more f f ls (none-disturbed f ls) in
      let touched : ℕ = if is_touched was now f (Some os) then 1 else 0 in
      subst (λ (b : Bool). (if b then 0 else n) ≤ 64 * touched) (sym (names-law (same_at was now) os)) (one-kept (holds (run_of os).asks f) (same_named was now (statements_of os)) n held le)

  -- one whose lines were done one after another in some state, and are done now in another
  pub chunk-touched : (e f : State) (at n : ℕ) (ls : List (List ℕ)) (os : List Trace) → os ≡ traces_from e ls → n ≤ 64
      → (if holds (run_of os).asks f then 0 else n) + (if is_passed was now (names_in os) (replayed f at ls os) then 0 else n)
      ≤ 128 * (if is_touched was now f (Some os) then 1 else 0)
  chunk-touched e f at n ls os done le =
      let looked : ℕ = if held then 0 else n in
      let touched : ℕ = if is_touched was now f (Some os) then 1 else 0 in
      subst (λ (b : Bool). looked + (if none && b then 0 else n) ≤ 128 * touched) (sym (names-law (same_at was now) os))
      (one-behind held (same_named was now (statements_of os)) none n still le)
    where
      held : Bool
      held = holds (run_of os).asks f

      none : Bool
      none = nat_eq (length (replayed f at ls os)) 0

      still : held ≡ true → none ≡ true
      still sure =
          let stands = run-law e f ls (ap (λ (ts : List Trace). holds (run_of ts).asks f) (sym done) ∙ sure) in
          let undisturbed : disturbed_from f (kept ls os) ≡ 0 = ap (λ ts. disturbed_from f (kept ls ts)) done ∙ stands.undisturbed in
          ap (λ news. nat_eq (length news) 0) (replayed-none f at ls os undisturbed)

  -- ---- chunk by chunk

  -- in front of the edit
  front-touched : (ns : List ℕ) (f : State) (at : ℕ) (ls : List (List ℕ)) (os : List Trace) → os ≡ traces_from f ls → AreShort ns
      → looks_again was now ns at [] os ≤ 64 * touched_from was now f (cut ns ls) (map Some (cut ns os))
  front-touched [] f at ls os done short = omega arith
  front-touched (n ∷ ns) f at ls os done short =
      let first : take n os ≡ traces_from f (take n ls) = ap (take n) done ∙ take-traces_from n f ls in
      let rest : drop n os ≡ traces_from (state_after f (take n ls)) (drop n ls) = ap (drop n) done ∙ drop-traces_from n f ls in
      add-kept _ _ _ _ (kept-touched f n (take n ls) (take n os) first short.0)
      (front-touched ns (state_after f (take n ls)) (at + n) (drop n ls) (drop n os) rest short.1)

  -- behind it
  behind-touched : (ns : List ℕ) (e f : State) (at : ℕ) (ls : List (List ℕ)) (os : List Trace) → os ≡ traces_from e ls → sum ns ≤ length ls → AreShort ns
      → looks_over f ns ls os + looks_again was now ns at (replayed f at ls os) os ≤ 128 * touched_from was now f (cut ns ls) (map Some (cut ns os))
  behind-touched [] e f at ls os done fits short = omega arith
  behind-touched (n ∷ ns) e f at ls os done fits short =
      let all = sum-cons n ns in
      let le : n ≤ length ls = omega (arith, all, fits) in
      let long : length os ≡ length ls = ap length done ∙ length-traces_from e ls in
      let g = state_after f (take n ls) in
      let first : take n os ≡ traces_from e (take n ls) = ap (take n) done ∙ take-traces_from n e ls in
      let rest : drop n os ≡ traces_from (state_after e (take n ls)) (drop n ls) = ap (drop n) done ∙ drop-traces_from n e ls in
      let before = replayed-before f at n ls os long le in
      let from = replayed-from f at n ls os long le in
      let looked : ℕ = looks_over f (n ∷ ns) ls os in
      let touched : ℕ = touched_from was now f (cut (n ∷ ns) ls) (map Some (cut (n ∷ ns) os)) in
      subst (λ (k : ℕ). looked + k ≤ 128 * touched)
      (λ i. (if is_passed was now (names_in (take n os)) (sym before i) then 0 else n) + looks_again was now ns (at + n) (sym from i) (drop n os))
      (one-and-rest _ _ _ _ _ _ (chunk-touched e f at n (take n ls) (take n os) first short.0)
      (behind-touched ns (state_after e (take n ls)) g (at + n) (drop n ls) (drop n os) rest (omega (arith, all, fits, length-drop n ls)) short.1))

-- ---- an edit

all-parts : (front kept again over loose touched first new last lines some : ℕ) → touched ≡ first + (new + last) → front ≤ 64 * first → over + again ≤ 128 * last
    → lines ≡ kept + (some + loose) → lines ≤ 64 * new → (loose + over) + ((front + kept) + (loose + again)) ≤ 128 * touched
all-parts front kept again over loose touched first new last lines some t p q s l = omega arith

module _ (was now : Resolved) (lines : List (List ℕ)) (splice : Splice) (start end : ℕ) (ns olds : List ℕ) (plan : Recuts lines splice start end ns olds) where
  short : AreShort olds
  short = chunks-short olds plan.chunks

  first-touched : looks_again was now (take start olds) 0 [] (traces_of lines) ≤ 64 * touched_front was now lines splice (take start olds)
  first-touched =
      let first = take start olds in
      let before = sum first in
      let front = take splice.keep lines in
      let len = length-take-le splice.keep lines (omega (arith, plan.order, plan.within)) in
      let same : take before lines ≡ take before (spliced lines splice) =
      sym (take-append-le before front (splice.new ++ drop splice.from lines) (omega (arith, len, plan.begins)) ∙ take-take before splice.keep lines plan.begins) in
      let here : cut first lines ≡ cut first (spliced lines splice) =
      sym (cut-within first before lines (omega arith)) ∙ ap (cut first) same ∙ cut-within first before (spliced lines splice) (omega arith) in
      let dones = map Some (cut first (traces_of lines)) in
      subst (λ (ps : List (List (List ℕ))). looks_again was now first 0 [] (traces_of lines) ≤ 64 * touched_from was now first_state ps dones) here
      (front-touched was now first first_state 0 lines (traces_of lines) refl (short-take start olds short))

  abbrev loose : ℕ
  loose = loose_behind splice end olds

  abbrev behind : List ℕ
  behind = drop end olds

  abbrev rest : List (List ℕ)
  rest = drop splice.from lines

  abbrev did : List Trace
  did = drop splice.from (traces_of lines)

  -- the state that stood in front of the chunks behind the edit, and the one that stands there now
  abbrev stood : State
  stood = state_after (state_after first_state (take splice.from lines)) (take loose rest)

  abbrev stands : State
  stands = state_after (state_behind lines splice) (take loose rest)

  abbrev again : ℕ → List (SparseItem Trace) → List Trace → ℕ
  again at news traces = looks_again was now behind at news traces

  last-touched : looks_over stands behind (drop loose rest) (drop loose did)
      + again (splice.from + loose) (items_from (splice.from + loose) (replayed_behind lines splice)) (drop (splice.from + loose) (traces_of lines))
      ≤ 128 * touched_behind was now lines splice end olds
  last-touched =
      let f = state_behind lines splice in
      let e = state_after first_state (take splice.from lines) in
      let at : ℕ = splice.from + loose in
      let past : at ≡ sum (take end olds) = omega (arith, plan.ends) in
      let all = sum-parts end olds in
      let left = length-drop splice.from lines in
      let le : loose ≤ length rest = omega (arith, all, plan.total, plan.ends, left) in
      let done : did ≡ traces_from e rest = drop-traces_from splice.from first_state lines in
      let long : length did ≡ length rest = ap length done ∙ length-traces_from e rest in
      let there : drop loose did ≡ drop at (traces_of lines) = drop-drop loose splice.from (traces_of lines) in
      let fits : sum behind ≤ length (drop loose rest) = omega (arith, all, plan.total, plan.ends, left, length-drop loose rest) in
      let news = replayed-from f splice.from loose rest did long le in
      let same : drop loose did ≡ drop (sum (take end olds)) (traces_of lines) = there ∙ ap (λ k. drop k (traces_of lines)) past in
      let looked : ℕ = looks_over stands behind (drop loose rest) (drop loose did) in
      subst (λ (k : ℕ). looked + k ≤ 128 * touched_behind was now lines splice end olds) (λ i. again at (sym news i) (there i))
      (subst (λ (ts : List Trace). looked + again at (replayed stands at (drop loose rest) (drop loose did)) (drop loose did) ≤ 128 * touched_from was now stands (cut behind (drop loose rest)) (map Some (cut behind ts))) same
      (behind-touched was now behind stood stands at (drop loose rest) (drop loose did) (ap (drop loose) done ∙ drop-traces_from loose e rest) fits (short-drop end olds short)))

pub looks-law : LooksLaw
looks-law lines splice start end ns olds plan =
    let was = finals_in lines in
    let now = finals_in (spliced lines splice) in
    let new : AreShort ns = short-first ns (drop end olds) (short-second (take start olds) (ns ++ drop end olds) (chunks-short (recut start end ns olds) plan.made)) in
    all-parts _ _ _ _ _ (touched_of lines splice olds (recut start end ns olds)) _ _ _ _ _ (touched-parts was now lines splice start end ns olds plan)
    (first-touched was now lines splice start end ns olds plan) (last-touched was now lines splice start end ns olds plan) plan.count (short-sum ns new)
