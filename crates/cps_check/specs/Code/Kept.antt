-- For the code that tells of instructions, not part of what a reader believes: rows as it keeps them, and the forms by which it knows those
-- of a peripheral processor.
use Prim.Native.Char.{code}
use Rattle.std.specs.Prelude.{◌≡◌, ℕ, Bool, true, false, List, [], ◌∷◌, map, flat_map, codes, Option, None, Some}
use Rattle.std.specs.Borrow.{Bor}
use Rattle.cps_text.specs.Parts.{comma}
use Rattle.cps_expr.specs.declared.term.Element.TheVariants.{Number}
use Rattle.cps_expr.specs.Expression.{Expression}
use Rattle.cps_code.specs.declared.hole.Hole.{Hole}
use Rattle.cps_code.specs.declared.hole.HoleKind.TheVariants as kind
use Rattle.cps_code.specs.declared.hole.Operand.TheVariants as operand
use Rattle.cps_code.specs.Form.{Form}
use Rattle.cps_code.specs.declared.layout.Layout.{Layout}
use Rattle.cps_code.specs.declared.layout.Layout.TheVariants as layout
use Rattle.cps_code.specs.PeripheralForms.{one_word, two_words, hole_of_d, hole_of_constant, hole_of_m}
use Rattle.cps_check.specs.declared.central_row.RowParts.{RowParts}
use Rattle.cps_check.specs.declared.sums.SumRow.{SumRow}
use Rattle.cps_check.specs.declared.sums.SumRow.TheVariants as sum
use Rattle.cps_check.specs.declared.peripheral.LayoutRow.{LayoutRow}
use Rattle.cps_code.specs.Rows.{RowForm}
use Rattle.cps_check.specs.declared.central_row.Told.{Told}
use Rattle.cps_check.specs.Central.{Parts, parts_of, row_text}
use Rattle.cps_check.specs.Codes.{fields_of, fitting_text}
use Rattle.cps_check.specs.Peripheral.{operands_text, letters_of}
use Rattle.cps_check.specs.Sentences.{Sentences}

-- ---- rows of the central processor

abbrev pub kept_parts : RowParts → Parts
kept_parts row = record {
  operands = row.operands.now;
  bits = row.bits;
  code = record { digits = row.digits.now; hole = row.hole };
  forces = row.forces;
}

abbrev pub with_operands : List ℕ → ℕ → List ℕ → Option ℕ → Bool → Parts
with_operands operands bits digits hole forces = record {
  operands = operands;
  bits = bits;
  code = record { digits = digits; hole = hole };
  forces = forces;
}

-- a text behind a comma
abbrev pub after_comma : List ℕ → List ℕ
after_comma text = comma ∷ text

abbrev pub sum_parts : SumRow → Parts
sum_parts (sum.Short operands digits) = with_operands operands.now 15 digits.now None false
sum_parts (sum.Constant operands digits) = with_operands operands.now 30 digits.now (Some (code "K")) false
sum_parts (sum.Jump operands digits) = with_operands operands.now 30 digits.now (Some (code "K")) true
sum_parts (sum.BareJump operands digits) = with_operands operands.now 30 digits.now None true

abbrev pub sentence_values : List (Bor (List ℕ) × Bor (List ℕ)) → Sentences
sentence_values sentences = map (λ s. (s.0.now, s.1.now)) sentences

-- a row of an operation; of a code, the row if the code has its form
abbrev pub row_by : List ℕ → ℕ → Sentences → Option (Bor (List ℕ)) → Parts → List ℕ
row_by name f sentences None parts = row_text name f sentences parts
row_by name f sentences (Some given) parts = fitting_text name f given.now parts

abbrev pub told_row : Told → Parts → List ℕ
told_row told parts = row_by told.name.now told.f (sentence_values told.sentences.now) told.code parts

abbrev pub told_rows : Told → List RowForm → List ℕ
told_rows told forms = flat_map (told_row told) (map parts_of forms)

-- ---- forms of a peripheral processor with the operand 0

abbrev pub zero : Expression
zero = record { is_minus = false; first = Number 0; factors = [] } ∷ []

abbrev pub zero_holes : Layout → List Hole
zero_holes layout.Unread = []
zero_holes layout.Target = hole_of_d kind.Target zero ∷ []
zero_holes layout.Short = hole_of_d kind.Value zero ∷ []
zero_holes layout.Constant = hole_of_constant (operand.Expression zero) ∷ []
zero_holes layout.Memory = hole_of_m (operand.Expression zero) ∷ []

abbrev pub zero_form : Layout → ℕ → Form
zero_form layout.Unread number = one_word number (zero_holes layout.Unread)
zero_form layout.Target number = one_word number (zero_holes layout.Target)
zero_form layout.Short number = one_word number (zero_holes layout.Short)
zero_form layout.Constant number = two_words number (zero_holes layout.Constant)
zero_form layout.Memory number = two_words number (zero_holes layout.Memory)

-- P of a layout and a number, where a form is that of an operation with them
abbrev pub IfZeroForm : Form → (Layout → ℕ → Type 0) → Type 0
IfZeroForm form P = (layout : Layout) (number : ℕ) → form ≡ zero_form layout number → P layout number

-- what is shown of a layout
pub record IsShown (layout : Layout) (shown : LayoutRow) : Type 0 where
  pub operands : shown.operands.now ≡ operands_text layout
  pub letters : shown.letters.now ≡ letters_of layout
  pub fields : shown.fields.now ≡ fields_of layout
