-- Numbers of the language: digits, and behind them perhaps a letter that names their base, in capitals or not.
-- From the manual's section on numeric constants; the limits are our profile's.
use Rattle.std.specs.Prelude.{ℕ, ◌-◌, ◌&&◌, nat_lt, List, length, take, slice_index, codes, Option, None, Some, if◌then◌else◌}
use Rattle.std.specs.List.{list_all}
use Rattle.cps_expr.specs.declared.radix.Radix.{Radix}
use Rattle.cps_expr.specs.declared.radix.Radix.TheVariants.{Octal, Decimal}
use Rattle.cps_text.specs.Digits.{digits_number}
use Rattle.cps_text.specs.Text.{among, capital, is_digit}

abbrev pub base_of : Radix → ℕ
base_of Octal = 8
base_of Decimal = 10

-- the base that a letter behind the digits names
abbrev pub base_named : ℕ → Option ℕ
base_named letter = if among (codes "BO") (capital letter) then Some 8 else (if among (codes "D") (capital letter) then Some 10 else None)

abbrev pub last : List ℕ → ℕ
last text = slice_index text (length text - 1)

-- a number has one or more digits, each below the base, and is below the limit
abbrev pub number_in : ℕ → ℕ → List ℕ → Option ℕ
number_in limit base digits =
    if nat_lt 0 (length digits) && (list_all (is_digit base) digits && nat_lt (digits_number base digits) limit) then Some (digits_number base digits) else None

abbrev pub number_with : ℕ → Option ℕ → Radix → List ℕ → Option ℕ
number_with limit None radix text = number_in limit (base_of radix) text
number_with limit (Some base) radix text = number_in limit base (take (length text - 1) text)

-- the number that a text writes, below a limit
abbrev pub number_of : ℕ → Radix → List ℕ → Option ℕ
number_of limit radix text = number_with limit (base_named (last text)) radix text
