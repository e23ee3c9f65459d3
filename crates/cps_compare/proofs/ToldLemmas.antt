-- Addresses and places, one more.
use Rattle.std.proofs.Common.{◌≡◌, ℕ, zero, suc, ◌+◌, Bool, cond, [], ◌∷◌, ◌++◌, refl, ap, ◌∙◌, arith}
use Rattle.std.specs.List.{range_with_len, filter}
use Rattle.std.proofs.lemmas.List.Elements.{filter-append}

pub range-more : (from count : ℕ) → range_with_len from (count + 1) ≡ range_with_len from count ++ (from + count) ∷ []
range-more from zero = let same : from + 0 ≡ from = omega arith in rw same refl
range-more from (suc count) =
    let next : suc count + 1 ≡ suc (count + 1) = omega arith in
    let last : from + 1 + count ≡ from + suc count = omega arith in
    rw next (ap (λ range. from ∷ range) (range-more (from + 1) count) ∙ ap (λ n. from ∷ (range_with_len (from + 1) count ++ n ∷ [])) last)

-- places up to one, and that one
pub places-more : (test : ℕ → Bool) (at : ℕ) → filter test (range_with_len 0 (at + 1)) ≡ filter test (range_with_len 0 at) ++ cond (test at) (at ∷ []) []
places-more test at =
    let same : 0 + at ≡ at = omega arith in
    ap (filter test) (range-more 0 at)
    ∙ filter-append test (range_with_len 0 at) ((0 + at) ∷ [])
    ∙ ap (λ n. filter test (range_with_len 0 at) ++ cond (test n) (n ∷ []) []) same
