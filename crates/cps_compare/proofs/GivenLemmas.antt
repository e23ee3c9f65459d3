-- The digits of a word, one place more.
use Rattle.std.proofs.Common.{◌≡◌, ℕ, zero, suc, ◌+◌, ◌-◌, ◌<◌, ◌≤◌, Bool, true, false, cond, ltb, ◌||◌, List, [], ◌∷◌, ◌++◌, All, length, map, refl, sym, ap, ◌∙◌, arith}
use Rattle.std.specs.List.{range_with_len, count_by, list_any}
use Rattle.std.proofs.lemmas.Bool.Decides.{nat_tests}
use Rattle.std.proofs.lemmas.List.{map-append}
use Rattle.std.proofs.lemmas.List.Elements.{All-from_get_or}
use Rattle.std.proofs.lemmas.List.Folds.{list_any-append}
use Rattle.std.proofs.lemmas.List.FromFn.{length-range_with_len, get_or-range_with_len}
use Rattle.cps_claims.specs.Counts.{places}
use Rattle.cps_claims.proofs.SlotLemmas.{count-more, all-places}
use Rattle.cps_compare.proofs.ToldLemmas.{range-more}

or-false : (b : Bool) → (b || false) ≡ b
or-false true = refl
or-false false = refl

or-true : (b : Bool) → (b || true) ≡ true
or-true true = refl
or-true false = refl

pub any-place : (test : ℕ → Bool) (at : ℕ) → list_any test (range_with_len 0 (at + 1)) ≡ (list_any test (range_with_len 0 at) || test at)
any-place test at =
    ap (list_any test) (range-more 0 at) ∙ list_any-append test (range_with_len 0 at) ((0 + at) ∷ [])
    ∙ ap (λ b. list_any test (range_with_len 0 at) || b) (or-false (test (0 + at)) ∙ ap test (omega arith))

-- some of the first ones do
any-front : (test : ℕ → Bool) (n more : ℕ) → list_any test (range_with_len 0 n) ≡ true → list_any test (range_with_len 0 (n + more)) ≡ true
any-front test n zero is = ap (λ k. list_any test (range_with_len 0 k)) (omega arith) ∙ is
any-front test n (suc more) is =
    let next : n + suc more ≡ (n + more) + 1 = omega arith in
    ap (λ k. list_any test (range_with_len 0 k)) next ∙ any-place test (n + more) ∙ ap (λ b. b || test (n + more)) (any-front test n more is)

pub counts-place : (test : ℕ → Bool) (at : ℕ) → count_by test (range_with_len 0 (at + 1)) ≡ count_by test (range_with_len 0 at) + cond (test at) 1 0
counts-place test at = count-more (λ place. cond (test place) 1 0) 0 at at (omega arith)

pub counts-places : (test : ℕ → Bool) (at count : ℕ) → at ≡ 20 → count ≡ count_by test (range_with_len 0 at) → count ≡ count_by test places
counts-places test at count end is = is ∙ ap (λ n. count_by test (range_with_len 0 n)) end ∙ ap (count_by test) all-places

pub maps-place : (f : ℕ → ℕ) (at : ℕ) (old new : List ℕ) → old ≡ map f (range_with_len 0 at) → new ≡ old ++ f at ∷ [] → new ≡ map f (range_with_len 0 (at + 1))
maps-place f at old new is more =
    let same : 0 + at ≡ at = omega arith in
    more ∙ ap (λ l. l ++ f at ∷ []) is
    ∙ sym (ap (map f) (range-more 0 at) ∙ map-append f (range_with_len 0 at) ((0 + at) ∷ []) ∙ ap (λ n. map f (range_with_len 0 at) ++ f n ∷ []) same)

pub maps-places : (f : ℕ → ℕ) (at : ℕ) (digits : List ℕ) → at ≡ 20 → digits ≡ map f (range_with_len 0 at) → digits ≡ map f places
maps-places f at digits end is = is ∙ ap (λ n. map f (range_with_len 0 n)) end ∙ ap (map f) all-places

pub any-here : (test : ℕ → Bool) (at n : ℕ) → test at ≡ true → at < n → list_any test (range_with_len 0 n) ≡ true
any-here test at n is within =
    let parts : n ≡ (at + 1) + (n - (at + 1)) = omega arith in
    ap (λ k. list_any test (range_with_len 0 k)) parts ∙ any-front test (at + 1) (n - (at + 1))
    (any-place test at ∙ ap (λ b. list_any test (range_with_len 0 at) || b) is ∙ or-true (list_any test (range_with_len 0 at)))

pub range-below : (from count n : ℕ) → from + count ≤ n → All (λ place. place < n) (range_with_len from count)
range-below from count n few =
    All-from_get_or (λ place. place < n) (range_with_len from count) 0
    (λ i within.
    let long = length-range_with_len from count in
    let here : i < count = omega (arith, long) in
    let at = get_or-range_with_len from count i 0 here in
    omega (arith, at, few, here))

-- ---- digits that lack

nil-of : (l : List ℕ) → length l ≡ 0 → l ≡ []
nil-of [] none = refl
nil-of (x ∷ l) none = let no : suc (length l) ≡ 0 = none in cc

pub none-of : (l : List ℕ) → ltb 0 (length l) ≡ false → l ≡ []
none-of l is = nil-of l (grind (arith, nat_tests))
