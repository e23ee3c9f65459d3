-- A law of the table: for any statement at most one of its rows fits. So the first row that fits is the only one; where it fits in both orders of its registers, they count as they are written.
use Rattle.std.specs.Prelude.{◌≢◌, ◌⊎◌, ℕ, List, All, AllPairs, IsSome}
use Rattle.cps_expr.specs.declared.radix.Radix.{Radix}
use Rattle.cps_code.specs.declared.digits.Digits.{Digits}
use Rattle.cps_code.specs.Digits.{first_digit, digits_in}
use Rattle.cps_code.specs.Rows.{RowForm, Operation}
use Rattle.cps_code.specs.RowForms.{Operands, turned, form_in_row}
use Rattle.cps_code.specs.Table.{cp_operations}

-- of two elements at different places, one at most is such
abbrev pub AtMostOne : {T : Type 0} → (T → Type 0) → List T → Type 0
AtMostOne Such elements = AllPairs (λ x y. Such x → Such y → ⊥) elements

-- a row fits operands as they stand, or with the register terms of their sum turned round
abbrev pub Fits : Radix → Digits → Operands → RowForm → Type 0
Fits radix digits operands row = IsSome (form_in_row radix digits row operands) ⊎ IsSome (form_in_row radix digits row (turned operands))

-- a text names an operation
abbrev pub Names : List ℕ → Operation → Type 0
Names text o = IsSome (digits_in o.name text (first_digit o.f))

-- ---- the laws

-- at most one row of an operation fits, whatever the operands
abbrev pub OneRowFits : Type 0
OneRowFits = (radix : Radix) (digits : Digits) (operands : Operands) → All (λ o. AtMostOne (Fits radix digits operands) o.forms) cp_operations

-- a text names at most one operation
abbrev pub OneIsNamed : Type 0
OneIsNamed = (text : List ℕ) → AtMostOne (Names text) cp_operations

-- the rows of an operation stand together: no two groups of rows have the same name
abbrev pub RowsStandTogether : Type 0
RowsStandTogether = AllPairs (λ o other. o.name ≢ other.name) cp_operations
