-- How many lines are compared of spans, and that the three spans of a move together compare no more than its chunks.
use Rattle.std.proofs.Common.{◌≡◌, refl, ℕ, ◌+◌, ◌-◌, ◌≤◌, ◌⊎◌, inl, inr, ⊎_elim, Bool, true, false, List, [], ◌∷◌, take, drop, arith}
use Rattle.std.specs.Prelude.{sum, nat_lt, not, ◌&&◌, ◌||◌, if◌then◌else◌}
use Rattle.std.proofs.lemmas.Bool.{and_parts, and_cases, or_parts, not-true, ltb-false}
use Rattle.cps_state.specs.Course.{Trace}
use Rattle.cps_state.specs.Keys.{State}
use Rattle.cps_edit.specs.declared.exchange.Exchange.{Exchange}
use Rattle.cps_final.specs.Holds.{holds}
use Rattle.cps_final.specs.Run.{run_of}
use Rattle.cps_chunk.specs.Code.Along.{span, reached, looks_of_part, looks_along}
use Rattle.cps_chunk.proofs.SpanLemmas.{part-held, part-most}
use Rattle.cps_chunk.specs.Code.MoveLooks.{is_among, is_cut_by, looks_moved}
use Rattle.cps_chunk.proofs.CutLemmas.{sum-cons}

-- ---- places that are reached in a span

-- in two spans, one behind the other
reached-two : (a b c x : ℕ) → a ≤ b → b ≤ c → reached (span a b) x + reached (span b c) x ≡ reached (span a c) x + b
reached-two a b c x first second = omega arith

reached-more : (a b x y : ℕ) → x ≤ y → reached (span a b) x ≤ reached (span a b) y
reached-more a b x y le = omega arith

-- no more lines of a span than there are
reached-few : (a b x y : ℕ) → x ≤ y → reached (span a b) y + x ≤ reached (span a b) x + y
reached-few a b x y le = omega arith

reached-inside : (a b x : ℕ) → a ≤ x → x ≤ b → reached (span a b) x ≡ x
reached-inside a b x begins ends = omega arith

reached-before : (a b x y : ℕ) → a ≤ b → y ≤ a → reached (span a b) y ≤ reached (span a b) x
reached-before a b x y le before = omega arith

reached-behind : (a b x y : ℕ) → a ≤ b → b ≤ x → reached (span a b) y ≤ reached (span a b) x
reached-behind a b x y le behind = omega arith

-- lines of three spans, one behind another
three-parts : (a b c d x y : ℕ) → a ≤ b → b ≤ c → c ≤ d → x ≤ y
    → (reached (span b c) y - reached (span b c) x) + ((reached (span a b) y - reached (span a b) x) + (reached (span c d) y - reached (span c d) x)) ≤ y - x
three-parts a b c d x y p q r le =
    few (reached (span a b) x) (reached (span a b) y) (reached (span b c) x) (reached (span b c) y) (reached (span c d) x) (reached (span c d) y)
    (reached (span a c) x) (reached (span a c) y) (reached (span a d) x) (reached (span a d) y)
    (reached-two a b c x p q) (reached-two a b c y p q) (reached-two a c d x (omega arith) r) (reached-two a c d y (omega arith) r)
    (reached-more a b x y le) (reached-more b c x y le) (reached-more c d x y le) (reached-few a d x y le)
  where
    few : (u u2 v v2 w w2 s s2 t t2 : ℕ) → u + v ≡ s + b → u2 + v2 ≡ s2 + b → s + w ≡ t + c → s2 + w2 ≡ t2 + c → u ≤ u2 → v ≤ v2 → w ≤ w2 → t2 + x ≤ t + y
        → (v2 - v) + ((u2 - u) + (w2 - w)) ≤ y - x
    few u u2 v v2 w w2 s s2 t t2 h1 h2 h3 h4 m1 m2 m3 all = omega arith

-- ---- chunks, where a move cuts lines into spans

-- the lines of a chunk that lie in a span
abbrev part_in : ℕ → ℕ → ℕ → ℕ → State → List Trace → ℕ
part_in a b at n state traces = looks_of_part (span (reached (span a b) at) (reached (span a b) (at + n))) at (at + n) state traces

module _ (a b at n : ℕ) (state : State) (traces : List Trace) where
  part-none : reached (span a b) (at + n) ≤ reached (span a b) at → part_in a b at n state traces ≡ 0
  part-none none = omega (arith, part-most (span (reached (span a b) at) (reached (span a b) (at + n))) at (at + n) state traces)

  -- the span doesn't begin or end among its lines
  part-uncut : a ≤ b → (a ≤ at) ⊎ (at + n ≤ a) → (b ≤ at) ⊎ (at + n ≤ b) → holds (run_of traces).asks state ≡ true → part_in a b at n state traces ≡ 0
  part-uncut le (inr before) end held = part-none (reached-before a b at (at + n) le before)
  part-uncut le (inl begins) (inl behind) held = part-none (reached-behind a b at (at + n) le behind)
  part-uncut le (inl begins) (inr ends) held =
      part-held (span (reached (span a b) at) (reached (span a b) (at + n))) at (at + n) state traces (reached-inside a b at begins (omega arith)) (reached-inside a b (at + n) (omega arith) ends) held

-- what a place that isn't among the lines of a chunk tells
not-among : (place at n : ℕ) → is_among place at n ≡ false → (place ≤ at) ⊎ (at + n ≤ place)
not-among place at n out =
    ⊎_elim (λ first. inl (ltb-false at place first)) (λ second. inr (ltb-false place (at + n) second)) (and_cases (nat_lt at place) (nat_lt place (at + n)) out)

none-or-all : (kept : Bool) (looked n : ℕ) → looked ≤ n → (kept ≡ true → looked ≡ 0) → looked ≤ (if kept then 0 else n)
none-or-all true looked n most none = omega (arith, none refl)
none-or-all false looked n most none = most

module _ (e : Exchange) (count : ℕ) (first : e.keep ≤ e.mid) (second : e.mid ≤ e.from) (last : e.from ≤ count) where
  -- one chunk
  module _ (at n : ℕ) (state : State) (traces : List Trace) (within : at + n ≤ count) where
    -- its lines in the three spans
    abbrev in_spans : ℕ
    in_spans = part_in e.mid e.from at n state traces + (part_in e.keep e.mid at n state traces + part_in e.from count at n state traces)

    abbrev stays : Bool
    stays = not (is_cut_by e at n) && holds (run_of traces).asks state

    spans-few : in_spans ≤ n
    spans-few = below _ _ _ _ _ _ (few e.mid e.from) (few e.keep e.mid) (few e.from count) (three-parts e.keep e.mid e.from count at (at + n) first second last (omega arith))
      where
        few : (a b : ℕ) → part_in a b at n state traces ≤ reached (span a b) (at + n) - reached (span a b) at
        few a b = part-most (span (reached (span a b) at) (reached (span a b) (at + n))) at (at + n) state traces

        below : (p q r u v w : ℕ) → p ≤ u → q ≤ v → r ≤ w → u + (v + w) ≤ (at + n) - at → p + (q + r) ≤ n
        below p q r u v w x y z le = omega arith

    spans-none : stays ≡ true → in_spans ≡ 0
    spans-none sure =
        let parts = and_parts (not (is_cut_by e at n)) (holds (run_of traces).asks state) sure in
        let out = or_parts (is_among e.keep at n) (is_among e.mid at n || is_among e.from at n) (not-true (is_cut_by e at n) parts.0) in
        let others = or_parts (is_among e.mid at n) (is_among e.from at n) out.1 in
        let keep = not-among e.keep at n out.0 in
        let mid = not-among e.mid at n others.0 in
        let from = not-among e.from at n others.1 in
        zeros _ _ _ (part-uncut e.mid e.from at n state traces second mid from parts.1) (part-uncut e.keep e.mid at n state traces first keep mid parts.1)
        (part-uncut e.from count at n state traces last from (inr within) parts.1)
      where
        zeros : (p q r : ℕ) → p ≡ 0 → q ≡ 0 → r ≡ 0 → p + (q + r) ≡ 0
        zeros p q r x y z = omega arith

    one-moved : in_spans ≤ (if stays then 0 else n)
    one-moved = none-or-all stays in_spans n spans-few spans-none

add-three : (p q r u v w x y : ℕ) → p + (q + r) ≤ x → u + (v + w) ≤ y → (p + u) + ((q + v) + (r + w)) ≤ x + y
add-three p q r u v w x y one rest = omega arith

-- a move compares no more than the chunks that it cuts, and those of whose asks one has another answer
pub spans-moved : (e : Exchange) (lengths : List ℕ) (at : ℕ) (stands : ℕ → State) (traces : List Trace) (count : ℕ)
    → e.keep ≤ e.mid → e.mid ≤ e.from → e.from ≤ count → at + sum lengths ≤ count
    → looks_along (span e.mid e.from) lengths at stands traces + (looks_along (span e.keep e.mid) lengths at stands traces + looks_along (span e.from count) lengths at stands traces)
    ≤ looks_moved e lengths at stands traces
spans-moved e [] at stands traces count first second last within = omega arith
spans-moved e (n ∷ lengths) at stands traces count first second last within =
    let all : sum (n ∷ lengths) ≡ n + sum lengths = sum-cons n lengths in
    add-three _ _ _ _ _ _ _ _ (one-moved e count first second last at n (stands at) (take n traces) (omega (arith, all)))
    (spans-moved e lengths (at + n) stands (drop n traces) count first second last (omega (arith, all)))
