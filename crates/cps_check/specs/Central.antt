-- What is told of an instruction of the central processor: each row of the table. The layout is our own.
use Prim.Native.Char.{code}
use Rattle.std.specs.Prelude.{ℕ, ◌+◌, ◌*◌, Bool, ◌==◌, List, [], ◌∷◌, ◌++◌, map, flat_map, drop, length, codes, Option, None, Some, if◌then◌else◌}
use Rattle.cps_text.specs.Parts.{with_commas}
use Rattle.cps_text.specs.Text.{begins_with}
use Rattle.cps_code.specs.declared.register.RegisterLetter.{RegisterLetter}
use Rattle.cps_code.specs.declared.register.RegisterLetter.TheVariants.{A, B, X}
use Rattle.cps_code.specs.Rows.{RowTerm, Shape, unread, fields, summed, Code, RowForm, Named}
use Rattle.cps_code.specs.Table.{instruction_named}
use Rattle.cps_code.specs.RowForms.{hole_width}
use Rattle.cps_check.specs.Front.{front, at_left}
use Rattle.cps_check.specs.Names.{row_name}
use Rattle.cps_check.specs.Sentences.{Sentences, words_among}

-- ---- operands

abbrev pub hole_text : Option ℕ → List ℕ
hole_text None = []
hole_text (Some letter) = letter ∷ []

abbrev pub hole_texts : Option ℕ → List (List ℕ)
hole_texts None = []
hole_texts (Some letter) = (letter ∷ []) ∷ []

abbrev pub register_letter : RegisterLetter → List ℕ
register_letter A = codes "A"
register_letter B = codes "B"
register_letter X = codes "X"

abbrev pub signed : RowTerm → List ℕ
signed term = (if term.is_minus then codes "-" else codes "+") ++ register_letter term.letter ++ term.digit ∷ []

-- a sum without a plus in front
abbrev pub without_plus : List ℕ → List ℕ
without_plus text = if begins_with (codes "+") text then drop 1 text else text

-- the operands of a row, as they are written
abbrev pub operands_text : Shape → List ℕ
operands_text unread = codes "not read"
operands_text (fields pattern) = with_commas (pattern.registers ++ hole_texts pattern.hole)
operands_text (summed terms has_constant) = without_plus (flat_map signed terms ++ (if has_constant then codes "+K" else []))

-- ---- codes

-- a character of a code, with the digit that f stands for
abbrev pub code_character : ℕ → ℕ → ℕ
code_character f letter = if letter == code "f" then code "0" + f else letter

abbrev pub forcing_text : Bool → List ℕ
forcing_text forces = if forces then codes "; the next instruction begins a word" else []

-- ---- rows

-- what is told of a row
pub record Parts : Type 0 where
  pub operands : List ℕ
  pub bits : ℕ
  pub code : Code
  pub forces : Bool

abbrev pub parts_of : RowForm → Parts
parts_of row = record {
  operands = operands_text row.shape;
  bits = 3 * length row.code.digits + hole_width row.code.hole;
  code = row.code;
  forces = row.forces;
}

abbrev pub code_text : ℕ → Parts → List ℕ
code_text f parts = map (code_character f) parts.code.digits ++ hole_text parts.code.hole

abbrev pub row_text : List ℕ → ℕ → Sentences → Parts → List ℕ
row_text name f sentences parts =
    front name parts.operands parts.bits
    ++ at_left 12 (code_text f parts) ++ words_among sentences parts.operands ++ forcing_text parts.forces ++ codes "\n"

abbrev pub rows_text : List ℕ → ℕ → Sentences → List RowForm → List ℕ
rows_text name f sentences forms = flat_map (row_text name f sentences) (map parts_of forms)

-- ---- an operation

abbrev pub central_head : List ℕ
central_head =
    codes "An instruction of the central processor: i, j and k are digits of registers,\n"
    ++ codes "K is an expression or a literal, n an expression.\n"

abbrev pub named_text : Sentences → List ℕ → Option Named → List ℕ
named_text sentences name None = []
named_text sentences name (Some named) = central_head ++ rows_text (row_name name) named.digits.f sentences named.forms

abbrev pub central_text : Sentences → List ℕ → List ℕ
central_text sentences name = named_text sentences name (instruction_named name)
