-- Digits in the names of a table.
use Rattle.std.proofs.Common.{◌≡◌, ◌<◌, ℕ, List, [], ◌∷◌, length, None, refl, arith}
use Rattle.cps_code.specs.declared.digits.Digits.{Digits}
use Rattle.cps_code.specs.Digits.{digits_in}

pub digits_in-end : (letters : List ℕ) (digits : Digits) → 0 < length letters → digits_in letters [] digits ≡ None
digits_in-end [] digits some = absurd (omega arith)
digits_in-end (letter ∷ letters) digits some = refl
