-- Masks of columns: the lowest bit that is set stands for the first column that passes.
use Rattle.std.proofs.Common.{◌≡◌, ℕ, zero, suc, ◌+◌, ◌-◌, ◌*◌, ◌/◌, ◌^◌, ◌<◌, ◌≤◌, min, eqb, Bool, true, false, not, cond, ◌&&◌, ◌||◌, List, [], ◌∷◌, map, length, take, drop, refl, sym, ap, ◌∙◌, inl, inr, arith, length-drop}
use Rattle.std.specs.List.{list_all, position_or_len}
use Rattle.std.specs.Simd.Lanes.{mask_l}
use Rattle.std.specs.Int.{trailing_zeros, w64}
use Rattle.std.proofs.Math.Nat.{pow-succ', div-div-eq-div-mul, zero-div, div-one}
use Rattle.std.specs.Int.Count.{trailing_of_zero}
use Rattle.std.proofs.lemmas.Bool.{cases_eq}
use Rattle.std.proofs.lemmas.Bool.Decides.{nat_tests}
use Rattle.std.proofs.lemmas.List.{drop-take}
use Rattle.std.proofs.lemmas.List.Sums.{prefix_len-le-length}
use Rattle.std.proofs.lemmas.Simd.{leading_from_mask_l, trailing_mask_l}
use Rattle.cps_text.specs.Text.{is_blank, is_filled}

half : (b : Bool) (n : ℕ) → (cond b 1 0 + 2 * n) / 2 ≡ n
half true n = omega arith
half false n = omega arith

-- the mask of what stands from a place on
pub mask-drop : (p : ℕ → Bool) (at : ℕ) (xs : List ℕ) → mask_l (map p xs) / 2 ^ at ≡ mask_l (map p (drop at xs))
mask-drop p zero xs = div-one (mask_l (map p xs))
mask-drop p (suc at) [] = zero-div (2 ^ suc at)
mask-drop p (suc at) (x ∷ xs) =
    ap (λ n. mask_l (map p (x ∷ xs)) / n) (pow-succ' 2 at) ∙ sym (div-div-eq-div-mul (mask_l (map p (x ∷ xs))) 2 (2 ^ at))
    ∙ ap (λ n. n / 2 ^ at) (half (p x) (mask_l (map p xs))) ∙ mask-drop p at xs

under : (b : Bool) (k n m : ℕ) → m ≡ min k n → cond b (1 + m) 0 ≡ min (suc k) (cond b (1 + n) 0)
under true k n m is = omega (arith, is)
under false k n m is = omega arith

-- the first that passes among so many
pub position-take : (p : ℕ → Bool) (k : ℕ) (xs : List ℕ) → position_or_len p (take k xs) ≡ min k (position_or_len p xs)
position-take p zero xs = omega arith
position-take p (suc k) [] = omega arith
position-take p (suc k) (x ∷ xs) = under (not (p x)) k (position_or_len p xs) (position_or_len p (take k xs)) (position-take p k xs)

-- the lowest bit that is set, from a place on among so many
pub first-set : (p : ℕ → Bool) (at places : ℕ) (columns : List ℕ) (rest : ℕ) → places ≤ 64 → at < places → rest ≡ mask_l (map p (drop at columns)) → length columns ≡ 64
    → min places (at + trailing_zeros w64 rest) ≡ at + position_or_len p (drop at (take places columns))
first-set p at places columns rest few within is long =
    let behind = drop at columns in
    let k = places - at in
    let sum : at + k ≡ places = omega (arith, within) in
    let left : length behind ≡ 64 - at = length-drop at columns ∙ ap (λ n. n - at) long in
    let shown : drop at (take places columns) ≡ take k behind = ap (λ n. drop at (take n columns)) (sym sum) ∙ drop-take at k columns in
    let place : position_or_len p (drop at (take places columns)) ≡ min k (position_or_len p behind) = ap (position_or_len p) shown ∙ position-take p k behind in
    let bound : position_or_len p behind ≤ length behind = prefix_len-le-length (λ x. not (p x)) behind in
    elim (cases_eq (mask_l (map p behind)) 0) [
      | inl none ↦
          let zeros : trailing_zeros w64 rest ≡ 64 = ap (trailing_zeros w64) (is ∙ none) ∙ trailing_of_zero 64 in
          let all : position_or_len p behind ≡ length behind = leading_from_mask_l p behind none in
          omega (arith, zeros, all, left, place, few, within)
      | inr some ↦
          let first : trailing_zeros w64 rest ≡ position_or_len p behind = ap (trailing_zeros w64) is ∙ trailing_mask_l p 64 behind (omega (arith, left)) (omega (arith, some)) in
          omega (arith, first, left, place, bound, few, within)
    ]

or-false : (b : Bool) → (b || false) ≡ b
or-false true = refl
or-false false = refl

-- what a comparison with blanks gives for each column
pub are-blank : (columns : List ℕ) → map (λ c. eqb c 32) columns ≡ map is_blank columns
are-blank [] = refl
are-blank (c ∷ columns) = λ i. sym (or-false (eqb c 32)) i ∷ are-blank columns i

pub are-filled : (columns : List ℕ) → map (λ c. not (eqb c 32)) columns ≡ map is_filled columns
are-filled [] = refl
are-filled (c ∷ columns) = λ i. not (sym (or-false (eqb c 32)) i) ∷ are-filled columns i

blank-more : (b all : Bool) (at len : ℕ) → eqb at len ≡ all → eqb (cond (not (not b)) (1 + at) 0) (suc len) ≡ (b && all)
blank-more true all at len is = grind (arith, nat_tests)
blank-more false all at len is = grind (arith, nat_tests)

-- all columns are blank where no filled one comes before the end
pub blank-whole : (columns : List ℕ) → eqb (position_or_len is_filled columns) (length columns) ≡ list_all is_blank columns
blank-whole [] = refl
blank-whole (c ∷ columns) = blank-more (is_blank c) (list_all is_blank columns) (position_or_len is_filled columns) (length columns) (blank-whole columns)
