-- The forms of a peripheral processor's instructions with the operand 0.
use Rattle.std.proofs.Common.{◌≡◌, ℕ, ◌-◌, ◌/◌, ◌^◌, length, take, true, false, List, [], ◌∷◌, ◌++◌, Option, None, Some, refl, sym, ap, ◌∙◌, append_assoc, append-nil, arith}
use Rattle.std.specs.Prelude.{codes, option_and_then, is_some, unwrap_or, ℤ, pos}
use Rattle.cps_expr.specs.declared.radix.Radix.TheVariants.{Decimal}
use Rattle.cps_expr.specs.Expression.{expression_of}
use Rattle.cps_text.specs.Operands.{operands_of}
use Rattle.cps_text.specs.Parts.{parts_from, parts_up_to}
use Rattle.cps_code.specs.Form.{Form, filled}
use Rattle.cps_code.specs.declared.layout.Layout.{Layout}
use Rattle.cps_code.specs.declared.layout.Layout.TheVariants.{Unread, Target, Short, Constant, Memory}
use Rattle.cps_code.specs.PeripheralForms.{form_with}
use Rattle.cps_code.specs.PeripheralTable.{Row, named, pp_table, is_operation, form_of}
use Rattle.cps_check.specs.Code.Kept.{zero_form}
use Rattle.cps_check.specs.Codes.{fitting_peripheral, fitting_peripheral_rows, fitting_peripheral_text}
use Rattle.cps_check.specs.Names.{row_name}
use Rattle.cps_check.specs.Peripheral.{row_text, peripheral_text, peripheral_head, named_text}
use Rattle.cps_check.specs.Sentences.{Sentences}

abbrev operand : List ℕ
operand = codes "0"

-- each layout takes the operand 0
read_zero : (layout : Layout) (number : ℕ) → form_with Decimal layout number (operands_of operand) ≡ Some (zero_form layout number)
unfolding parts_from parts_up_to expression_of
read_zero Unread number = refl
read_zero Target number = refl
read_zero Short number = refl
read_zero Constant number = refl
read_zero Memory number = refl

-- the form of a row with it
abbrev form_in : Option Row → Option Form
form_in row = option_and_then (λ row. form_with Decimal row.layout row.number (operands_of operand)) row

-- no operation has no form
pub no_form : (name : List ℕ) → is_operation name ≡ false → form_of name operand Decimal ≡ None
no_form name missing = of_row (named pp_table name) missing
  where
    of_row : (row : Option Row) → is_some row ≡ false → form_in row ≡ None
    of_row None missing = refl
    of_row (Some row) missing = cc

-- and what has no form is no operation
pub no_operation : (name : List ℕ) → form_of name operand Decimal ≡ None → is_operation name ≡ false
no_operation name unread = of_row (named pp_table name) unread
  where
    of_row : (row : Option Row) → form_in row ≡ None → is_some row ≡ false
    of_row None unread = refl
    of_row (Some row) unread = let read = sym (read_zero row.layout row.number) ∙ unread in cc

pub nothing_told : (sentences : Sentences) (name text : List ℕ) → form_of name operand Decimal ≡ None
    → text ≡ text ++ peripheral_text sentences name
nothing_told sentences name text unread = of_row (named pp_table name) unread
  where
    of_row : (row : Option Row) → form_in row ≡ None → text ≡ text ++ named_text sentences name row
    of_row None unread = sym (append-nil text)
    of_row (Some row) unread = let read = sym (read_zero row.layout row.number) ∙ unread in cc

pub operation_by_form : (name : List ℕ) (form : Form) → form_of name operand Decimal ≡ Some form → is_operation name ≡ true
operation_by_form name form read = of_row (named pp_table name) read
  where
    of_row : (row : Option Row) → form_in row ≡ Some form → is_some row ≡ true
    of_row None read = cc
    of_row (Some row) read = refl

-- what is told by a form is the row's
pub told_by_form : (sentences : Sentences) (name text told : List ℕ) (form : Form) → form_of name operand Decimal ≡ Some form
    → ((layout : Layout) (number : ℕ) → form ≡ zero_form layout number → told ≡ (text ++ peripheral_head) ++ row_text sentences (row_name name) layout number)
    → told ≡ text ++ peripheral_text sentences name
told_by_form sentences name text told form read tells = of_row (named pp_table name) read
  where
    of_row : (row : Option Row) → form_in row ≡ Some form → told ≡ text ++ named_text sentences name row
    of_row None read = cc
    of_row (Some row) read =
        let is : form ≡ zero_form row.layout row.number = ap (λ found. unwrap_or found form) (sym read ∙ read_zero row.layout row.number) in
        tells row.layout row.number is ∙ append_assoc text peripheral_head (row_text sentences (row_name name) row.layout row.number)

-- ---- the number of an operation

abbrev zeros : Form → List ℤ
zeros form = take (length form.holes) (pos 0 ∷ pos 0 ∷ [])

number_of_zero : (layout : Layout) (number : ℕ)
    → (filled (zero_form layout number) (zeros (zero_form layout number))).digits / 2 ^ ((zero_form layout number).bits - 6) ≡ number
number_of_zero Unread number = omega arith
number_of_zero Target number = omega arith
number_of_zero Short number = omega arith
number_of_zero Constant number = omega arith
number_of_zero Memory number = omega arith

pub number_told : (layout : Layout) (number : ℕ) (form : Form) → form ≡ zero_form layout number → (filled form (zeros form)).digits / 2 ^ (form.bits - 6) ≡ number
number_told layout number form is = ap (λ form. (filled form (zeros form)).digits / 2 ^ (form.bits - 6)) is ∙ number_of_zero layout number

-- ---- codes

-- nothing is told of a code by what is no operation
pub nothing_fits : (given name text : List ℕ) → form_of name operand Decimal ≡ None → text ≡ text ++ fitting_peripheral given name
nothing_fits given name text unread = of_row (named pp_table name) unread
  where
    of_row : (row : Option Row) → form_in row ≡ None → text ≡ text ++ fitting_peripheral_rows given name row
    of_row None unread = sym (append-nil text)
    of_row (Some row) unread = let read = sym (read_zero row.layout row.number) ∙ unread in cc

-- what is told of it by a form is the row's
pub fits_by_form : (given name text told : List ℕ) (form : Form) → form_of name operand Decimal ≡ Some form
    → ((layout : Layout) (number : ℕ) → form ≡ zero_form layout number → told ≡ text ++ fitting_peripheral_text given (row_name name) layout number)
    → told ≡ text ++ fitting_peripheral given name
fits_by_form given name text told form read tells = of_row (named pp_table name) read
  where
    of_row : (row : Option Row) → form_in row ≡ Some form → told ≡ text ++ fitting_peripheral_rows given name row
    of_row None read = cc
    of_row (Some row) read =
        let is : form ≡ zero_form row.layout row.number = ap (λ found. unwrap_or found form) (sym read ∙ read_zero row.layout row.number) in
        tells row.layout row.number is
