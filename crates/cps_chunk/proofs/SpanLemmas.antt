-- How many lines are compared of a span, chunk after chunk.
use Rattle.std.proofs.Common.{◌≡◌, refl, sym, ap, ◌∙◌, ℕ, ◌+◌, ◌-◌, ◌<◌, ◌≤◌, ◌⊎◌, inl, inr, ⊎_elim, Bool, true, false, add_assoc, zero-add, List, [], ◌∷◌, ◌++◌, length, get_or, take, drop, arith}
use Rattle.std.specs.Prelude.{sum, nat_eq, ◌&&◌, if◌then◌else◌}
use Rattle.std.proofs.lemmas.Bool.{cond-true, cond-false, cases_lt, and_parts, and_from, eqb-true, eq-eqb}
use Rattle.std.proofs.lemmas.List.{take-append-drop, drop-drop, take_more}
use Rattle.std.proofs.lemmas.List.Sums.{sum_by-cons}
use Rattle.cps_state.specs.Course.{Trace}
use Rattle.cps_state.specs.Keys.{State}
use Rattle.cps_final.specs.Holds.{holds}
use Rattle.cps_final.specs.Run.{run_of}
use Rattle.cps_chunk.specs.declared.walk.Span.{Span}
use Rattle.cps_chunk.specs.Code.Along.{span, reached, looks_of_part, looks_along}

-- of some chunks, and of those behind them
pub looks-append : (lines : Span) (ms ns : List ℕ) (at : ℕ) (stands : ℕ → State) (traces : List Trace)
    → looks_along lines (ms ++ ns) at stands traces ≡ looks_along lines ms at stands traces + looks_along lines ns (at + sum ms) stands (drop (sum ms) traces)
looks-append lines [] ns at stands traces =
    let here : at ≡ at + 0 = omega arith in
    ap (λ k. looks_along lines ns k stands traces) here ∙ sym (zero-add (looks_along lines ns (at + 0) stands traces))
looks-append lines (m ∷ ms) ns at stands traces =
    let all : sum (m ∷ ms) ≡ m + sum ms = sum_by-cons (λ x. x) m ms in
    let there : (at + m) + sum ms ≡ at + sum (m ∷ ms) = omega (arith, all) in
    let behind : drop (sum ms) (drop m traces) ≡ drop (sum (m ∷ ms)) traces = drop-drop (sum ms) m traces ∙ ap (λ k. drop k traces) (sym all) in
    let one : ℕ = looks_of_part (span (reached lines at) (reached lines (at + m))) at (at + m) (stands at) (take m traces) in
    let left : ℕ = looks_along lines ms (at + m) stands (drop m traces) in
    ap (λ k. one + k) (looks-append lines ms ns (at + m) stands (drop m traces) ∙ (λ i. left + looks_along lines ns (there i) stands (behind i)))
    ∙ sym (add_assoc one left (looks_along lines ns (at + sum (m ∷ ms)) stands (drop (sum (m ∷ ms)) traces)))

-- one more of them
pub looks-next : (lines : Span) (ns : List ℕ) (i n : ℕ) (stands : ℕ → State) (traces : List Trace) → i < length ns → n ≡ get_or ns i n
    → looks_along lines (take (i + 1) ns) 0 stands traces
    ≡ looks_along lines (take i ns) 0 stands traces
    + looks_of_part (span (reached lines (sum (take i ns))) (reached lines (sum (take i ns) + n))) (sum (take i ns)) (sum (take i ns) + n) (stands (sum (take i ns))) (take n (drop (sum (take i ns)) traces))
looks-next lines ns i n stands traces lt is =
    let at : ℕ = sum (take i ns) in
    let part : ℕ → ℕ = λ (k : ℕ). looks_of_part (span (reached lines k) (reached lines (k + n))) k (k + n) (stands k) (take n (drop at traces)) in
    let one : part (0 + at) + 0 ≡ part at = (let none : part (0 + at) + 0 ≡ part (0 + at) = omega arith in none ∙ ap part (zero-add at)) in
    ap (λ ks. looks_along lines ks 0 stands traces) (take_more ns i n lt ∙ ap (λ k. take i ns ++ k ∷ []) (sym is))
    ∙ looks-append lines (take i ns) (n ∷ []) 0 stands traces
    ∙ ap (λ k. looks_along lines (take i ns) 0 stands traces + k) one

pub looks-upto : (lines : Span) (ns : List ℕ) (i : ℕ) (stands : ℕ → State) (traces : List Trace)
    → looks_along lines (take i ns) 0 stands traces ≤ looks_along lines ns 0 stands traces
looks-upto lines ns i stands traces =
    let first = take i ns in
    let all : looks_along lines ns 0 stands traces ≡ looks_along lines first 0 stands traces + looks_along lines (drop i ns) (0 + sum first) stands (drop (sum first) traces) =
    ap (λ ks. looks_along lines ks 0 stands traces) (sym (take-append-drop i ns)) ∙ looks-append lines first (drop i ns) 0 stands traces in
    omega (arith, all)

-- ---- a part of one chunk

-- with both answers of a test
none-either : (h : Bool) (few : ℕ) → few ≡ 0 → (if h then 0 else few) ≡ 0
none-either true few none = refl
none-either false few none = none

choice-most : (whole h : Bool) (few all : ℕ) → (whole ≡ true → few ≤ all) → (if whole then (if h then 0 else few) else all) ≤ all
choice-most true true few all le = omega arith
choice-most true false few all le = le refl
choice-most false h few all le = omega arith

choice-same : (whole h k : Bool) (few all : ℕ) → (whole ≡ true → (few ≡ 0) ⊎ (h ≡ k)) → (if whole then (if h then 0 else few) else all) ≡ (if whole then (if k then 0 else few) else all)
choice-same true h k few all same = ⊎_elim (λ none. none-either h few none ∙ sym (none-either k few none)) (λ one. ap (λ (b : Bool). if b then 0 else few) one) (same refl)
choice-same false h k few all same = refl

-- all its lines lie in the part
whole-part : (part : Span) (at end : ℕ) → (nat_eq part.from at && nat_eq part.to end) ≡ true → (part.from ≡ at) × (part.to ≡ end)
whole-part part at end whole =
    let both = and_parts (nat_eq part.from at) (nat_eq part.to end) whole in
    (eqb-true part.from at both.0, eqb-true part.to end both.1)

-- not all of its lines lie in the part
pub part-some : (part : Span) (at end : ℕ) (state : State) (traces : List Trace) → (part.from ≡ at → part.to ≡ end → ⊥) → looks_of_part part at end state traces ≡ part.to - part.from
part-some part at end state traces other = by_test (nat_eq part.from at && nat_eq part.to end) refl
  where
    by_test : (test : Bool) → (nat_eq part.from at && nat_eq part.to end) ≡ test → looks_of_part part at end state traces ≡ part.to - part.from
    by_test true is = let both = and_parts (nat_eq part.from at) (nat_eq part.to end) is in absurd (other (eqb-true part.from at both.0) (eqb-true part.to end both.1))
    by_test false is = cond-false _ _ _ is

-- no more than the lines of the part
pub part-most : (part : Span) (at end : ℕ) (state : State) (traces : List Trace) → looks_of_part part at end state traces ≤ part.to - part.from
part-most part at end state traces =
    choice-most (nat_eq part.from at && nat_eq part.to end) (holds (run_of traces).asks state) (end - at) (part.to - part.from)
    (λ whole. (let both : (part.from ≡ at) × (part.to ≡ end) = whole-part part at end whole in omega (arith, both.0, both.1)))

-- all of its lines, and what they ask has the answers that it had
pub part-held : (part : Span) (at end : ℕ) (state : State) (traces : List Trace) → part.from ≡ at → part.to ≡ end → holds (run_of traces).asks state ≡ true
    → looks_of_part part at end state traces ≡ 0
part-held part at end state traces begins ends held =
    cond-true _ _ _ (and_from _ _ (eq-eqb part.from at begins) (eq-eqb part.to end ends)) ∙ cond-true _ _ _ held

-- only a chunk with lines, all of them in the part, asks what stands in front of it
pub part-agree : (part : Span) (at end : ℕ) (f g : State) (traces : List Trace) → (part.from ≡ at → part.to ≡ end → at < end → f ≡ g)
    → looks_of_part part at end f traces ≡ looks_of_part part at end g traces
part-agree part at end f g traces same =
    choice-same (nat_eq part.from at && nat_eq part.to end) (holds (run_of traces).asks f) (holds (run_of traces).asks g) (end - at) (part.to - part.from) (λ whole.
    (let both : (part.from ≡ at) × (part.to ≡ end) = whole-part part at end whole in
    ⊎_elim (λ some. inr (ap (λ (state : State). holds (run_of traces).asks state) (same both.0 both.1 some))) (λ none. inl (omega arith)) (cases_lt at end)))

-- ---- chunks, where the same stands in front of the lines of the span

pub looks-agree : (lines : Span) (ns : List ℕ) (at : ℕ) (f g : ℕ → State) (traces : List Trace) → ((k : ℕ) → lines.from ≤ k → k < lines.to → f k ≡ g k)
    → looks_along lines ns at f traces ≡ looks_along lines ns at g traces
looks-agree lines [] at f g traces same = refl
looks-agree lines (n ∷ ns) at f g traces same =
    let here = part-agree (span (reached lines at) (reached lines (at + n))) at (at + n) (f at) (g at) (take n traces) (λ begins ends some. same at (omega arith) (omega arith)) in
    let rest = looks-agree lines ns (at + n) f g (drop n traces) same in
    λ i. here i + rest i
