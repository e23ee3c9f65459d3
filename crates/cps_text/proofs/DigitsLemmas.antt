-- A number grows with each of its digits.
use Rattle.std.proofs.Common.{ℕ, zero, suc, ◌+◌, ◌<◌, ◌≤◌, List, [], ◌∷◌, length, get_or, take, arith}
use Rattle.std.specs.Prelude.{fold}
use Rattle.std.proofs.lemmas.List.Sums.{fold_more}
use Rattle.cps_text.specs.Digits.{with_digit, digits_number}

grows : (base number digit : ℕ) → 0 < base → number ≤ with_digit base number digit
grows base number digit some = grind arith

fold-ge : (base number : ℕ) (digits : List ℕ) → 0 < base → number ≤ fold (with_digit base) number digits
fold-ge base number [] some = omega arith
fold-ge base number (d ∷ ds) some = omega (arith, grows base number d some, fold-ge base (with_digit base number d) ds some)

pub fold-take : (base number : ℕ) (digits : List ℕ) (i : ℕ) → 0 < base → fold (with_digit base) number (take i digits) ≤ fold (with_digit base) number digits
fold-take base number digits zero some = fold-ge base number digits some
fold-take base number [] (suc i) some = omega arith
fold-take base number (d ∷ ds) (suc i) some = fold-take base (with_digit base number d) ds i some

-- a number is above each that its digits in front are above
pub digits-above : (base greatest : ℕ) (digits : List ℕ) (i : ℕ) → 0 < base → i < length digits → greatest < with_digit base (digits_number base (take i digits)) (get_or digits i 0) → greatest < digits_number base digits
digits-above base greatest digits i some within above =
    let more = fold_more (with_digit base) 0 digits i 0 within in
    let front = fold-take base 0 digits (i + 1) some in
    grind arith
