-- Numbers that words write.
use Rattle.std.proofs.Common.{◌≡◌, ◌≢◌, ℕ, ◌^◌, ◌<◌, ◌≤◌, Bool, true, false, ◌&&◌, List, [], ◌∷◌, length, Some, None, Result, Ok, Err, refl, sym, ap, subst, arith, get_or, true≢false}
use Prim.Native.Char.{code}
use Rattle.std.specs.Prelude.{◌==◌, if◌then◌else◌, nat_le, nat_lt, option_map}
use Rattle.std.specs.List.{list_all}
use Rattle.std.specs.Char.{digit_value, is_digit}
use Rattle.std.specs.Result.{OkIff}
use Rattle.std.specs.Str.Parse.{AllDigits, IsNumeral, ParsesUnsigned, digits_value, without_leading_plus}
use Rattle.std.proofs.lemmas.Bool.Decides.{nat_tests}
use Rattle.std.proofs.lemmas.Int.Digits.{digits_value-lt}
use Rattle.std.proofs.lemmas.Str.Parse.{without_leading_plus_none}
use Rattle.std.proofs.Math.Nat.{pow-le-pow_right}
use Rattle.cps_claims.specs.declared.layout.WordOffset.TheVariants.{Up}
use Rattle.cps_words.specs.Values.{address_named, number_named, offset_named}

-- ---- the digits

below : (a b : ℕ) → nat_lt a b ≡ true → a < b
below a b is = grind (arith, nat_tests)

is_below : (a b : ℕ) → a < b → nat_lt a b ≡ true
is_below a b lt = grind (arith, nat_tests)

is_at_most : (a b : ℕ) → a ≤ b → nat_le a b ≡ true
is_at_most a b le = grind (arith, nat_tests)

all_digits : (radix : ℕ) (word : List ℕ) → list_all (λ digit. is_digit digit radix) word ≡ true → AllDigits radix word
all_digits radix [] all = tt
all_digits radix (c ∷ cs) all = first (is_digit c radix) refl all (all_digits radix cs)
  where
    first : (test : Bool) → is_digit c radix ≡ test → (test && list_all (λ digit. is_digit digit radix) cs) ≡ true
        → (list_all (λ digit. is_digit digit radix) cs ≡ true → AllDigits radix cs) → (digit_value c < radix) × AllDigits radix cs
    first true is all rest = (below (digit_value c) radix is, rest all)
    first false is all rest = absurd (true≢false (sym all))

too_large : (value radix : ℕ) → value ≡ 36 → value < radix → radix ≤ 36 → ⊥
too_large value radix is lt few = omega arith

-- a plus is no digit
no_plus : (radix : ℕ) (word : List ℕ) → radix ≤ 36 → AllDigits radix word → get_or word 0 0 ≢ 43
no_plus radix [] few all = λ e. absurd (omega arith)
no_plus radix (c ∷ cs) few all = λ e. too_large (digit_value c) radix (ap digit_value e) all.0 few

-- ---- the number

is_ok : {E P : Type 0} (r : Result ℕ E) (value : ℕ) → OkIff r P value → P → r ≡ Ok value
is_ok (Ok x) value parses holds = ap (λ y. Ok y) parses.1
is_ok (Err e) value parses holds = absurd (parses holds)

picked : (some short all : Bool) (value : ℕ) → some ≡ true → short ≡ true → all ≡ true
    → (if some && (short && all) then Some value else None) ≡ Some value
picked some short all value e f g = rw (e, f, g) refl

module _ (radix most : ℕ) (word : List ℕ) (few : radix ≤ 36) (some : 0 < length word) (short : length word ≤ most)
    (all : list_all (λ digit. is_digit digit radix) word ≡ true) where
  -- digits name their number
  pub named : number_named radix most word ≡ Some (digits_value radix word)
  named = picked (nat_lt 0 (length word)) (nat_le (length word) most) (list_all (λ digit. is_digit digit radix) word) (digits_value radix word)
      (is_below 0 (length word) some) (is_at_most (length word) most short) all

  -- which is small
  pub small_number : 2 ≤ radix → digits_value radix word < radix ^ most
  small_number two =
      let low : digits_value radix word < radix ^ length word = digits_value-lt radix word (all_digits radix word all) in
      let most_low : radix ^ length word ≤ radix ^ most = pow-le-pow_right (omega arith) short in
      omega arith

  -- and is parsed as that
  pub parsed : {E : Type 0} (r : Result ℕ E) → 2 ≤ radix → radix ^ most < 2 ^ 32 → ParsesUnsigned 32 radix word r → r ≡ Ok (digits_value radix word)
  parsed r two fits parses =
      let digits = all_digits radix word all in
      let small = small_number two in
      let plain : without_leading_plus word ≡ word = without_leading_plus_none word (no_plus radix word few digits) in
      is_ok r (digits_value radix word)
      (subst (λ (ds : List ℕ). OkIff r (IsNumeral radix ds × (digits_value radix ds < 2 ^ 32)) (digits_value radix ds)) plain parses)
      ((some, digits), omega arith)

-- ---- offsets

is_other : (a b : ℕ) → a ≢ b → (a == b) ≡ false
is_other a b differ = grind (arith, nat_tests)

-- with no sign before its digits an offset is added
pub plain_offset : (word : List ℕ) → ((rest : List ℕ) → word ≢ code "-" ∷ rest) → ((rest : List ℕ) → word ≢ code "+" ∷ rest)
    → offset_named word ≡ option_map (λ count. Up count) (address_named word)
plain_offset [] no_minus no_plus = refl
plain_offset (sign ∷ digits) no_minus no_plus =
    let minus : (sign == code "-") ≡ false = is_other sign (code "-") (λ is. no_minus digits (ap (λ c. c ∷ digits) is)) in
    let plus : (sign == code "+") ≡ false = is_other sign (code "+") (λ is. no_plus digits (ap (λ c. c ∷ digits) is)) in
    rw (minus, plus) refl
