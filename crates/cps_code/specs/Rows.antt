-- Rows of a table of instructions, how each is written, and the operations that they make.
use Prim.Native.Char.{code}
use Rattle.std.specs.Prelude.{ℕ, Bool, true, false, ◌==◌, List, [], ◌∷◌, flat_map, slice_index, bytes_eq, codes, Option, None, Some, option_map, if◌then◌else◌}
use Rattle.std.specs.Option.{option_or}
use Rattle.cps_expr.specs.Expression.{is_minus, onto_first, signed_texts}
use Rattle.cps_text.specs.Text.{among}
use Rattle.cps_code.specs.declared.digits.Digits.{Digits}
use Rattle.cps_code.specs.declared.register.RegisterLetter.{RegisterLetter}
use Rattle.cps_code.specs.declared.register.RegisterLetter.TheVariants.{A, B, X}
use Rattle.cps_code.specs.Digits.{first_digit, digits_in}

-- ---- how a row is written

-- operands of registers, and after them one for a hole, told by its letter, or none
pub record Pattern : Type 0 where
  pub registers : List (List ℕ)
  pub hole : Option ℕ

-- a register term of a sum: its sign, its letter, and the letter that stands for its digit
pub record RowTerm : Type 0 where
  pub is_minus : Bool
  pub letter : RegisterLetter
  pub digit : ℕ

-- what a row asks of the operands
pub data Shape : Type 0 where
  -- nothing: the variable field isn't read
  unread : Shape
  -- operands that are written like these
  fields : Pattern → Shape
  -- one operand, a sum of these register terms, and of a K beside them or of none
  summed : List RowTerm → Bool → Shape

-- octal digits, and after them a hole or none
pub record Code : Type 0 where
  pub digits : List ℕ
  pub hole : Option ℕ

pub record RowForm : Type 0 where
  pub shape : Shape
  pub code : Code
  -- whether a forcing is pending after it
  pub forces : Bool

pub record Row : Type 0 where
  pub operation : List ℕ
  -- the digit that f stands for
  pub f : ℕ
  pub form : RowForm

-- ---- the texts of a row: K stands for an expression or a literal in 18 bits, n for the expression of a count; they come last

abbrev pub is_hole : ℕ → Bool
is_hole = among (codes "Kn")

abbrev pub cut_at_commas : List ℕ → List (List ℕ)
cut_at_commas [] = [] ∷ []
cut_at_commas (character ∷ text) = if among (codes ",") character then [] ∷ cut_at_commas text else onto_first character (cut_at_commas text)

abbrev pub pattern_of : List (List ℕ) → Pattern
pattern_of [] = record { registers = []; hole = None }
pattern_of (text ∷ texts) =
    if is_hole (slice_index text 0) then record { registers = []; hole = Some (slice_index text 0) }
    else record { registers = text ∷ (pattern_of texts).registers; hole = (pattern_of texts).hole }

abbrev pub code_of : List ℕ → Code
code_of [] = record { digits = []; hole = None }
code_of (letter ∷ text) =
    if is_hole letter then record { digits = []; hole = Some letter }
    else record { digits = letter ∷ (code_of text).digits; hole = (code_of text).hole }

-- operands as they are written
abbrev pub written : List ℕ → Shape
written text = fields (pattern_of (cut_at_commas text))

abbrev pub register_letter : ℕ → RegisterLetter
register_letter character = if character == code "A" then A else (if character == code "B" then B else X)

-- a term that is written with its sign: of a register its letter and the letter of its digit; of K, which is no register, none
abbrev pub term_written : List ℕ → List RowTerm
term_written (sign ∷ letter ∷ digit ∷ text) = record { is_minus = is_minus sign; letter = register_letter letter; digit = digit } ∷ []
term_written text = []

-- a sum as it is written: its registers, the first with a plus where no sign stands in front, and whether there is a K
abbrev pub sum : List ℕ → Shape
sum text = summed (flat_map term_written (signed_texts text)) (among text (code "K"))

abbrev pub form : Shape → List ℕ → RowForm
form shape text = record { shape = shape; code = code_of text; forces = false }

-- rows in whose codes no f stands
abbrev pub row : List ℕ → Shape → List ℕ → Row
row operation shape text = record { operation = operation; f = 0; form = form shape text }

abbrev pub forcing_row : List ℕ → Shape → List ℕ → Row
forcing_row operation shape text = record { operation = operation; f = 0; form = record { shape = shape; code = code_of text; forces = true } }

-- ---- operations: rows one after the other with the same name

pub record Operation : Type 0 where
  pub name : List ℕ
  pub f : ℕ
  pub forms : List RowForm

abbrev pub onto_operations : Row → List Operation → List Operation
onto_operations row [] = record { name = row.operation; f = row.f; forms = row.form ∷ [] } ∷ []
onto_operations row (o ∷ operations) =
    if bytes_eq row.operation o.name then record { name = o.name; f = o.f; forms = row.form ∷ o.forms } ∷ operations
    else record { name = row.operation; f = row.f; forms = row.form ∷ [] } ∷ o ∷ operations

abbrev pub operations_in : List Row → List Operation
operations_in [] = []
operations_in (row ∷ rows) = onto_operations row (operations_in rows)

-- an operation with the digits of a name
pub record Named : Type 0 where
  pub digits : Digits
  pub forms : List RowForm

-- the operation that a name stands for
abbrev pub named : List Operation → List ℕ → Option Named
named [] name = None
named (o ∷ operations) name =
    option_or (option_map (λ digits. record { digits = digits; forms = o.forms }) (digits_in o.name name (first_digit o.f))) (named operations name)
