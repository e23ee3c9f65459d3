-- For the branches on the forms of an operation, not part of what a reader believes: forms by what a statement finds in its operands.
use Prim.Native.Char.{code}
use Rattle.std.specs.Prelude.{ℕ, ◌*◌, ◌^◌, Bool, true, false, List, [], ◌∷◌, Option, None, Some, option_map, option_and_then}
use Rattle.std.specs.Option.{option_or}
use Rattle.cps_expr.specs.declared.radix.Radix.{Radix}
use Rattle.cps_expr.specs.declared.machine.Machine.TheVariants.{Cp}
use Rattle.cps_expr.specs.OperandList.{only_one}
use Rattle.cps_expr.specs.Term.{Term}
use Rattle.cps_code.specs.declared.digits.Digits.{Digits}
use Rattle.cps_code.specs.declared.fields.ReadFields as kept
use Rattle.cps_code.specs.declared.forms.SumForms.{SumForms}
use Rattle.cps_code.specs.declared.forms.SumForms.TheVariants as sums
use Rattle.cps_code.specs.declared.hole.HoleKind.TheVariants.{Value, Count}
use Rattle.cps_code.specs.declared.hole.Operand.{Operand}
use Rattle.cps_code.specs.declared.hole.Operand.TheVariants.{Expression}
use Rattle.cps_code.specs.declared.register.RegisterTerm.{RegisterTerm}
use Rattle.cps_code.specs.Bits.{constant_bits, count_bits}
use Rattle.cps_code.specs.Form.{Form}
use Rattle.cps_code.specs.Operand.{operand_of}
use Rattle.cps_code.specs.Rows.{Shape, RowForm, unread, fields, summed}
use Rattle.cps_code.specs.RowForms.{Found, Operands, turned_sum, registers_in, found_in_sum, form_found}
use Rattle.cps_code.specs.Sum.{Summed}
use Rattle.cps_code.specs.Code.Operations.{jump_forms}
use Rattle.cps_code.specs.Table.{set_forms}

-- ---- operands of registers

-- the digits, where no operand is left
abbrev pub with_none_left : Digits × List (List ℕ) → Option Digits
with_none_left (digits, []) = Some digits
with_none_left (digits, text ∷ texts) = None

-- the digits of operands of registers, and nothing after them
abbrev pub registers_alone : List (List ℕ) → List (List ℕ) → Digits → Option Digits
registers_alone registers texts digits = option_and_then with_none_left (registers_in registers texts digits)

-- the digits of operands of registers, and K after them
abbrev pub constant_in : Radix → List (List ℕ) → List (List ℕ) → Digits → Option kept.ReadFields
constant_in radix registers texts digits =
    option_and_then (λ left. option_map (λ k. record { digits = left.0; operand = k }) (only_one (operand_of Cp radix) left.1)) (registers_in registers texts digits)

-- ---- operands of rows that ask for no sum

abbrev pub no_sum : List (List ℕ) → Operands
no_sum operands = record { texts = operands; sum = None }

-- ---- forms of rows that ask for a sum

-- what a shape finds in a sum, if it asks for one
abbrev pub found_in_shape : Digits → Summed → Shape → Option Found
found_in_shape digits sum unread = None
found_in_shape digits sum (fields pattern) = None
found_in_shape digits sum (summed terms has_constant) = found_in_sum terms has_constant digits sum

-- the form of the first row that fits the registers as they stand
abbrev pub form_in_sum : Digits → List RowForm → Summed → Option Form
form_in_sum digits [] sum = None
form_in_sum digits (row ∷ rows) sum = option_or (option_map (form_found row) (found_in_shape digits sum row.shape)) (form_in_sum digits rows sum)

-- the same, in the one order of the registers or the other
abbrev pub form_of_sum : Digits → List RowForm → Summed → Option Form
form_of_sum digits rows sum = option_or (form_in_sum digits rows sum) (form_in_sum digits rows (turned_sum sum))

-- the form of a set instruction with these registers and this constant
abbrev pub set_form : Digits → List RegisterTerm → Option Operand → Option Form
set_form digits registers constant = form_of_sum digits set_forms (record { registers = registers; constant = constant })

-- the same for the registers in this order alone
abbrev pub set_form_as_it_stands : Digits → List RegisterTerm → Option Operand → Option Form
set_form_as_it_stands digits registers constant = form_in_sum digits set_forms (record { registers = registers; constant = constant })

-- the form of a jump with these registers and this constant
abbrev pub jump_form : Digits → List RegisterTerm → Option Operand → Option Form
jump_form digits registers constant = form_of_sum digits jump_forms (record { registers = registers; constant = constant })

-- the rows of the one or the other
abbrev pub sum_rows : SumForms → List RowForm
sum_rows sums.Set = set_forms
sum_rows sums.Jump = jump_forms

abbrev pub sum_form : SumForms → Digits → List RegisterTerm → Option Operand → Option Form
sum_form sums.Set = set_form
sum_form sums.Jump = jump_form

-- ---- forms by their digits

-- four digits and a constant
abbrev pub long_form : ℕ → Operand → Bool → Form
long_form front operand forces = record {
  bits = 30;
  code = front * 2 ^ constant_bits;
  holes = record { first = 12; width = constant_bits; kind = Value; operand = operand } ∷ [];
  forces_after = forces;
}

-- four digits and a constant of 0, with a forcing pending after it
abbrev pub bare_form : ℕ → Form
bare_form front = record { bits = 30; code = front * 2 ^ constant_bits; holes = []; forces_after = true }

-- five digits
abbrev pub short_form : ℕ → Form
short_form code = record { bits = 15; code = code; holes = []; forces_after = false }

-- three digits and a count
abbrev pub count_form : ℕ → List Term → Form
count_form front count = record {
  bits = 15;
  code = front * 2 ^ count_bits;
  holes = record { first = 9; width = count_bits; kind = Count; operand = Expression count } ∷ [];
  forces_after = false;
}
