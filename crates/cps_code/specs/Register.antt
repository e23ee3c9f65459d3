-- Registers: A, B or X, in capitals or not, and a digit from 0 to 7. From the machine's reference manual.
use Rattle.std.specs.Prelude.{ℕ, ◌-◌, Bool, List, [], ◌∷◌, codes, slice_index, Option, None, Some, option_map, if◌then◌else◌}
use Rattle.cps_code.specs.declared.register.RegisterLetter.{RegisterLetter}
use Rattle.cps_code.specs.declared.register.RegisterLetter.TheVariants.{A, B, X}
use Rattle.cps_code.specs.declared.register.RegisterTerm.{RegisterTerm}
use Rattle.cps_text.specs.Text.{among, capital, is_digit}

-- the character of a text that has one
abbrev pub character : List ℕ → ℕ
character text = slice_index text 0

abbrev pub digit_value : ℕ → ℕ
digit_value digit = digit - character (codes "0")

abbrev pub letter_of : ℕ → Option RegisterLetter
letter_of letter =
    if among (codes "A") (capital letter) then Some A
    else (if among (codes "B") (capital letter) then Some B
    else (if among (codes "X") (capital letter) then Some X else None))

-- a register: A, B or X and a digit from 0 to 7
abbrev pub register_of : Bool → List ℕ → Option RegisterTerm
register_of minus [] = None
register_of minus (letter ∷ []) = None
register_of minus (letter ∷ digit ∷ []) =
    if is_digit 8 digit then option_map (λ l. record { is_minus = minus; letter = l; digit = digit_value digit }) (letter_of letter) else None
register_of minus (letter ∷ digit ∷ more ∷ text) = None
