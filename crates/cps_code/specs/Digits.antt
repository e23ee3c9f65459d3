-- Texts of a table with letters for digits: i, j and k stand for the digits of registers, and f for the first digit of a set instruction's code.
use Prim.Native.Char.{code}
use Rattle.std.specs.Prelude.{◌<◌, ℕ, ◌+◌, ◌*◌, ◌==◌, List, [], ◌∷◌, codes, fold, Option, None, Some, option_and_then, if◌then◌else◌}
use Rattle.cps_code.specs.declared.digits.Digits.{Digits}
use Rattle.cps_code.specs.Register.{digit_value}
use Rattle.cps_text.specs.Text.{among, capital, is_digit}

-- an f, and 0 for the others
abbrev pub first_digit : ℕ → Digits
first_digit f = record { f = f; i = 0; j = 0; k = 0 }

abbrev pub with_digit : ℕ → ℕ → Digits → Digits
with_digit letter digit digits =
    if letter == code "i" then record { f = digits.f; i = digit; j = digits.j; k = digits.k }
    else (if letter == code "j" then record { f = digits.f; i = digits.i; j = digit; k = digits.k }
    else record { f = digits.f; i = digits.i; j = digits.j; k = digit })

-- a character of a statement against one of the table: a digit for i, j or k, and otherwise the same, where lower-case letters stand for capitals
abbrev pub with_character : ℕ → ℕ → Digits → Option Digits
with_character letter character digits =
    if among (codes "ijk") letter then (if is_digit 8 character then Some (with_digit letter (digit_value character) digits) else None)
    else (if letter == capital character then Some digits else None)

-- a text of a statement against one of the table, with the digits that are known before
abbrev pub digits_in : List ℕ → List ℕ → Digits → Option Digits
digits_in [] [] digits = Some digits
digits_in [] (character ∷ text) digits = None
digits_in (letter ∷ letters) [] digits = None
digits_in (letter ∷ letters) (character ∷ text) digits = option_and_then (digits_in letters text) (with_character letter character digits)

-- ---- the digits of a code

abbrev pub digit_of : Digits → ℕ → ℕ
digit_of digits letter =
    if letter == code "f" then digits.f
    else (if letter == code "i" then digits.i
    else (if letter == code "j" then digits.j
    else (if letter == code "k" then digits.k
    else (if is_digit 8 letter then digit_value letter else 0))))

-- the number that digits write, octal
abbrev pub octal : Digits → List ℕ → ℕ
octal digits text = fold (λ number letter. number * 8 + digit_of digits letter) 0 text

-- ---- what digits keep: each is octal

pub record AreDigits (digits : Digits) : Type 0 where
  pub f : digits.f < 8
  pub i : digits.i < 8
  pub j : digits.j < 8
  pub k : digits.k < 8
