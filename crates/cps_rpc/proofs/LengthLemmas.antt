-- The length that header fields tell.
use Rattle.std.proofs.Common.{◌≡◌, ℕ, ◌^◌, ◌<◌, ◌≤◌, true, zero, suc, List, [], ◌∷◌, length, take, arith, length-take}
use Rattle.std.specs.List.{list_all}
use Rattle.std.specs.Char.{is_ascii_digit, digit_value}
use Rattle.std.specs.Str.Parse.{AllDigits, digits_value}
use Rattle.std.proofs.lemmas.Int.Digits.{digits_value-lt}
use Rattle.std.proofs.lemmas.Bool.Decides.{nat_tests}
use Rattle.std.proofs.Math.Nat.{pow-le-pow_right}
use Rattle.cps_rpc.specs.Header.{most_digits}

digit_small : (digit : ℕ) → is_ascii_digit digit ≡ true → digit_value digit < 10
digit_small digit is = grind (arith, nat_tests)

pub all_digits : (digits : List ℕ) → list_all is_ascii_digit digits ≡ true → AllDigits 10 digits
all_digits [] all = tt
all_digits (digit ∷ digits) all = (digit_small digit (grind arith), all_digits digits (grind arith))

take-all_digits : (digits : List ℕ) (i : ℕ) → AllDigits 10 digits → AllDigits 10 (take i digits)
take-all_digits digits zero all = tt
take-all_digits [] (suc i) all = tt
take-all_digits (digit ∷ digits) (suc i) all = (all.0, take-all_digits digits i all.1)

-- digits before one of at most nine write a number below 10 ^ 8
pub number_small : (digits : List ℕ) (i : ℕ) → AllDigits 10 digits → i < length digits → length digits ≤ most_digits
    → digits_value 10 (take i digits) < 10 ^ 8
number_small digits i all within few =
    let below : digits_value 10 (take i digits) < 10 ^ length (take i digits) = digits_value-lt 10 (take i digits) (take-all_digits digits i all) in
    let short : length (take i digits) ≤ 8 = omega (arith, length-take i digits) in
    let most : 10 ^ length (take i digits) ≤ 10 ^ 8 = pow-le-pow_right (omega arith) short in
    omega arith
