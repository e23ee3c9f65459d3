-- Names in the order of the numbers that their bytes write.
use Rattle.std.proofs.Common.{◌≡◌, ℕ, suc, ◌+◌, ◌*◌, ◌<◌, ◌≤◌, List, [], ◌∷◌, length, get_or, refl, sym, ap, ◌∙◌, arith}
use Rattle.std.specs.Int.{w64, from_be_bytes}
use Rattle.std.specs.Ordering.{nat_cmp, ordering_then, MatchOrdering}
use Rattle.std.specs.Cmp.{nat_cmp_is}
use Rattle.std.specs.Cmp.Lexicographic.{slice_cmp}
use Rattle.std.specs.declared.cmp.Ordering.{Ordering}
use Rattle.std.specs.declared.cmp.Ordering.TheVariants.{Less, Equal, Greater}
use Rattle.std.proofs.Math.Nat.{mul-le-mul_right}
use Rattle.std.proofs.lemmas.Bool.Decides.{nat_tests}

-- what the place before some bytes is worth, and the number that the bytes write
scale : List ℕ → ℕ
scale [] = 1
scale (x ∷ bytes) = 256 * scale bytes

worth : List ℕ → ℕ
worth [] = 0
worth (x ∷ bytes) = x * scale bytes + worth bytes

abbrev AreBytes : List ℕ → Type 0
AreBytes bytes = (i : ℕ) → get_or bytes i 0 < 256

below : (bytes : List ℕ) → AreBytes bytes → worth bytes < scale bytes
unfolding scale worth
below [] small = omega arith
below (x ∷ bytes) small =
    let first = small 0 in
    let most : x * scale bytes ≤ 255 * scale bytes = mul-le-mul_right (scale bytes) (omega arith) in
    let rest = below bytes (λ i. small (suc i)) in
    omega arith

one_order : (x y : ℕ) → MatchOrdering (nat_cmp x y) (x < y) (x ≡ y) (y < x)
one_order x y = grind (arith, nat_tests)

later_first : (x y s a b : ℕ) → x < y → a < s → x * s + a < y * s + b
later_first x y s a b less fits = let more : suc x * s ≤ y * s = mul-le-mul_right s (omega arith) in omega arith

step : (first rest : Ordering) (x y s a b : ℕ) → MatchOrdering first (x < y) (x ≡ y) (y < x) → MatchOrdering rest (a < b) (a ≡ b) (b < a) → a < s → b < s
    → MatchOrdering (ordering_then first rest) (x * s + a < y * s + b) (x * s + a ≡ y * s + b) (y * s + b < x * s + a)
step Less rest x y s a b front behind fits other = later_first x y s a b front fits
step Greater rest x y s a b front behind fits other = later_first y x s b a front other
step Equal Less x y s a b front behind fits other = rw front (omega arith)
step Equal Equal x y s a b front behind fits other = rw (front, behind) refl
step Equal Greater x y s a b front behind fits other = rw front (omega arith)

in_order : (a b : List ℕ) → length a ≡ length b → AreBytes a → AreBytes b → (scale a ≡ scale b) × MatchOrdering (slice_cmp nat_cmp a b) (worth a < worth b) (worth a ≡ worth b) (worth b < worth a)
unfolding scale worth
in_order [] [] same small low = (refl, refl)
in_order [] (y ∷ b) same small low = absurd (omega arith)
in_order (x ∷ a) [] same small low = absurd (omega arith)
in_order (x ∷ a) (y ∷ b) same small low =
    let rest = in_order a b (omega arith) (λ i. small (suc i)) (λ i. low (suc i)) in
    let fits = below a (λ i. small (suc i)) in
    let other = below b (λ i. low (suc i)) in (
      ap (λ s. 256 * s) rest.0,
      rw (sym rest.0) (step (nat_cmp x y) (slice_cmp nat_cmp a b) x y (scale a) (worth a) (worth b) (one_order x y) rest.1 fits (omega arith)),
    )

eight_worth : (bytes : List ℕ) → length bytes ≡ 8 → worth bytes ≡ from_be_bytes w64 bytes
unfolding scale worth
eight_worth (a ∷ b ∷ c ∷ d ∷ e ∷ f ∷ g ∷ h ∷ []) eight = omega arith
eight_worth _ eight = absurd (omega arith)

pub name-order : (a b : List ℕ) → length a ≡ 8 → AreBytes a → length b ≡ 8 → AreBytes b → slice_cmp nat_cmp a b ≡ nat_cmp (from_be_bytes w64 a) (from_be_bytes w64 b)
name-order a b eight small other low =
    let order = in_order a b (eight ∙ sym other) small low in
    nat_cmp_is (from_be_bytes w64 a) (from_be_bytes w64 b) (slice_cmp nat_cmp a b) (rw (eight_worth a eight, eight_worth b other) at order.1)
