-- What a row of the table of instructions finds in the operands of a statement, and the form that it has.
use Prim.Native.Char.{code}
use Rattle.std.specs.Prelude.{ℕ, ◌+◌, ◌*◌, ◌^◌, Bool, true, false, ◌&&◌, not, ◌==◌, List, [], ◌∷◌, reverse, length, Option, None, Some, option_map, option_and_then, is_some, if◌then◌else◌}
use Rattle.std.specs.Option.{option_or}
use Rattle.cps_expr.specs.declared.radix.Radix.{Radix}
use Rattle.cps_expr.specs.declared.machine.Machine.TheVariants.{Cp}
use Rattle.cps_expr.specs.Expression.{expression_of}
use Rattle.cps_expr.specs.OperandList.{only_one}
use Rattle.cps_code.specs.declared.digits.Digits.{Digits}
use Rattle.cps_code.specs.declared.hole.Hole.{Hole}
use Rattle.cps_code.specs.declared.hole.HoleKind.TheVariants.{Value, Count}
use Rattle.cps_code.specs.declared.hole.Operand.{Operand}
use Rattle.cps_code.specs.declared.hole.Operand.TheVariants.{Expression}
use Rattle.cps_code.specs.declared.register.RegisterLetter.{RegisterLetter}
use Rattle.cps_code.specs.declared.register.RegisterLetter.TheVariants.{A, B, X}
use Rattle.cps_code.specs.declared.register.RegisterTerm.{RegisterTerm}
use Rattle.cps_text.specs.Operands.{operands_of}
use Rattle.cps_code.specs.Bits.{constant_bits, count_bits}
use Rattle.cps_code.specs.Digits.{with_digit, digits_in, octal}
use Rattle.cps_code.specs.Rows.{Pattern, RowTerm, Shape, unread, fields, summed, RowForm}
use Rattle.cps_code.specs.Table.{instruction_named}
use Rattle.cps_code.specs.Operand.{operand_of}
use Rattle.cps_code.specs.Sum.{Summed, summed_of}
use Rattle.cps_code.specs.Form.{Form}

-- ---- what a row finds in operands

-- the operands of a statement, and the registers and the K that the only one writes, if it writes such
pub record Operands : Type 0 where
  pub texts : List (List ℕ)
  pub sum : Option Summed

-- what the only operand of a tail writes; None where it writes no registers and no K, or where there is another number of operands
abbrev pub only_sum : Radix → List ℕ → Option Summed
only_sum radix tail = only_one (summed_of radix) (operands_of tail)

abbrev pub operands_in : Radix → List ℕ → Operands
operands_in radix tail = record { texts = operands_of tail; sum = only_sum radix tail }

-- a sum with its register terms turned round
abbrev pub turned_sum : Summed → Summed
turned_sum sum = record { registers = reverse sum.registers; constant = sum.constant }

abbrev pub turned : Operands → Operands
turned operands = record { texts = operands.texts; sum = option_map turned_sum operands.sum }

-- the digits, and what is put into the hole, if there is one
pub record Found : Type 0 where
  pub digits : Digits
  pub operand : Option Operand

-- the digits of the operands of registers, and the operands after them
abbrev pub registers_in : List (List ℕ) → List (List ℕ) → Digits → Option (Digits × List (List ℕ))
registers_in [] texts digits = Some (digits, texts)
registers_in (letters ∷ registers) [] digits = None
registers_in (letters ∷ registers) (text ∷ texts) digits = option_and_then (registers_in registers texts) (digits_in letters text digits)

abbrev pub is_constant : ℕ → Bool
is_constant letter = letter == code "K"

-- the only operand, for a hole of this letter: K takes an expression or a literal, n an expression alone
abbrev pub only_for : Radix → ℕ → List (List ℕ) → Option Operand
only_for radix letter texts = if is_constant letter then only_one (operand_of Cp radix) texts else option_map Expression (only_one (expression_of radix) texts)

abbrev pub found_behind : Radix → Option ℕ → Digits × List (List ℕ) → Option Found
found_behind radix (Some letter) left = option_map (λ o. record { digits = left.0; operand = Some o }) (only_for radix letter left.1)
found_behind radix None (digits, []) = Some (record { digits = digits; operand = None })
found_behind radix None (digits, text ∷ texts) = None

abbrev pub found_in_fields : Radix → Pattern → List (List ℕ) → Digits → Option Found
found_in_fields radix pattern texts digits = option_and_then (found_behind radix pattern.hole) (registers_in pattern.registers texts digits)

abbrev pub same_bool : Bool → Bool → Bool
same_bool true b = b
same_bool false b = not b

abbrev pub same_letter : RegisterLetter → RegisterLetter → Bool
same_letter A A = true
same_letter A B = false
same_letter A X = false
same_letter B A = false
same_letter B B = true
same_letter B X = false
same_letter X A = false
same_letter X B = false
same_letter X X = true

abbrev pub is_of : RowTerm → RegisterTerm → Bool
is_of term register = same_bool term.is_minus register.is_minus && same_letter term.letter register.letter

-- the registers are those of the terms, one for one
abbrev pub digits_of_terms : List RowTerm → List RegisterTerm → Digits → Option Digits
digits_of_terms [] [] digits = Some digits
digits_of_terms [] (r ∷ registers) digits = None
digits_of_terms (t ∷ terms) [] digits = None
digits_of_terms (t ∷ terms) (r ∷ registers) digits = if is_of t r then digits_of_terms terms registers (with_digit t.digit r.digit digits) else None

abbrev pub found_in_sum : List RowTerm → Bool → Digits → Summed → Option Found
found_in_sum terms has_constant digits sum =
    if same_bool (is_some sum.constant) has_constant
    then option_map (λ ds. record { digits = ds; operand = sum.constant }) (digits_of_terms terms sum.registers digits)
    else None

-- None: the shape doesn't fit the operands
abbrev pub found_in : Radix → Shape → Operands → Digits → Option Found
found_in radix unread operands digits = Some (record { digits = digits; operand = None })
found_in radix (fields pattern) operands digits = found_in_fields radix pattern operands.texts digits
found_in radix (summed terms has_constant) operands digits = option_and_then (found_in_sum terms has_constant digits) operands.sum

-- ---- the form of a row

abbrev pub hole_width : Option ℕ → ℕ
hole_width None = 0
hole_width (Some letter) = if is_constant letter then constant_bits else count_bits

abbrev pub hole_at : ℕ → Operand → ℕ → Hole
hole_at first operand letter = record {
  first = first;
  width = hole_width (Some letter);
  kind = if is_constant letter then Value else Count;
  operand = operand;
}

abbrev pub holes_behind : ℕ → Option ℕ → Option Operand → List Hole
holes_behind first None operand = []
holes_behind first (Some letter) None = []
holes_behind first (Some letter) (Some operand) = hole_at first operand letter ∷ []

-- a number with room for a hole after it
abbrev pub before_hole : Option ℕ → ℕ → ℕ
before_hole None number = number
before_hole (Some letter) number = number * 2 ^ hole_width (Some letter)

abbrev pub form_found : RowForm → Found → Form
form_found row found = record {
  bits = 3 * length row.code.digits + hole_width row.code.hole;
  code = before_hole row.code.hole (octal found.digits row.code.digits);
  holes = holes_behind (3 * length row.code.digits) row.code.hole found.operand;
  forces_after = row.forces;
}

abbrev pub form_in_row : Radix → Digits → RowForm → Operands → Option Form
form_in_row radix digits row operands = option_map (form_found row) (found_in radix row.shape operands digits)

-- the form of the first row that fits
abbrev pub form_in : Radix → Digits → List RowForm → Operands → Option Form
form_in radix digits [] operands = None
form_in radix digits (row ∷ rows) operands = option_or (form_in_row radix digits row operands) (form_in radix digits rows operands)

-- register terms of a sum are tried as they stand, and then turned round
abbrev pub form_of_rows : Radix → Digits → List RowForm → Operands → Option Form
form_of_rows radix digits rows operands = option_or (form_in radix digits rows operands) (form_in radix digits rows (turned operands))

-- the form of a statement
abbrev pub form_of : List ℕ → List ℕ → Radix → Option Form
form_of name tail radix = option_and_then (λ n. form_of_rows radix n.digits n.forms (operands_in radix tail)) (instruction_named name)
