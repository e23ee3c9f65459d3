-- For the look-up of an operation, not part of what a reader believes: the table as the code keeps it.
use Prim.Native.Char.{code}
use Rattle.std.specs.Prelude.{ℕ, Bool, true, false, ◌==◌, List, [], ◌∷◌, map, filter, slice_index, codes, Option, None, Some}
use Rattle.std.specs.Borrow.{Bor}
use Rattle.cps_code.specs.declared.digits.Digits.{Digits}
use Rattle.cps_code.specs.declared.operation.FieldForm.{FieldForm}
use Rattle.cps_code.specs.declared.operation.FieldForm.TheVariants as field
use Rattle.cps_code.specs.declared.operation.Forms.{Forms}
use Rattle.cps_code.specs.declared.operation.Forms.TheVariants.{Pass, Stop, SetA, SetB, SetX, Jump, Fields}
use Rattle.cps_code.specs.Rows.{RowForm, Operation, Named, unread, fields}
use Rattle.cps_code.specs.Table.{set_forms, jump_rows}

abbrev pub texts : List (Bor (List ℕ)) → List (List ℕ)
texts borrowed = map (λ text. text.now) borrowed

abbrev pub field_row : List (List ℕ) → List ℕ → Option ℕ → Bool → RowForm
field_row registers digits hole forces = record {
  shape = fields (record { registers = registers; hole = hole });
  code = record { digits = digits; hole = hole };
  forces = forces;
}

abbrev pub row_of_fields : FieldForm → RowForm
row_of_fields (field.Short registers digits) = field_row (texts registers.now) digits.now None false
row_of_fields (field.Constant registers digits) = field_row (texts registers.now) digits.now (Some (code "K")) false
row_of_fields (field.Forcing registers digits) = field_row (texts registers.now) digits.now (Some (code "K")) true
row_of_fields (field.Count digits) = field_row [] digits.now (Some (code "n")) false

abbrev pub jump_forms : List RowForm
jump_forms = map (λ row. row.form) jump_rows

abbrev pub unread_form : List ℕ → Bool → RowForm
unread_form digits forces = record { shape = unread; code = record { digits = digits; hole = None }; forces = forces }

abbrev pub rows_of : Forms → List RowForm
rows_of Pass = unread_form (codes "46000") false ∷ []
rows_of Stop = unread_form (codes "0000000000") true ∷ []
rows_of SetA = set_forms
rows_of SetB = set_forms
rows_of SetX = set_forms
rows_of Jump = jump_forms
rows_of (Fields rows) = map row_of_fields rows.now

abbrev pub first_of : Forms → ℕ
first_of Pass = 0
first_of Stop = 0
first_of SetA = 5
first_of SetB = 6
first_of SetX = 7
first_of Jump = 0
first_of (Fields rows) = 0

abbrev pub operation_values : List (Bor (List ℕ) × Forms) → List Operation
operation_values entries = map (λ entry. record { name = entry.0.now; f = first_of entry.1; forms = rows_of entry.1 }) entries

abbrev pub named_value : Forms × Digits → Named
named_value found = record { digits = found.1; forms = rows_of found.0 }

-- the operations whose names begin with a letter
abbrev pub beginning_with : ℕ → List Operation → List Operation
beginning_with letter operations = filter (λ o. slice_index o.name 0 == letter) operations
