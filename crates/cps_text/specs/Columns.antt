-- The fields of a line as intervals of its columns: the rule. `Card.antt` computes the same. From the manual's section on the statement format.
-- Columns count from 1; behind a short line's end all columns are blank.
use Prim.Native.Char.{code}
use Rattle.std.specs.Prelude.{◌≡◌, ℕ, ◌+◌, ◌-◌, ◌<◌, ◌≤◌, ◌⊎◌, max, true, false, List, [], length, take, drop, slice_index_or}
use Rattle.cps_text.specs.Card.{StatementFields, LineFields, CommentLine, ContinuedLine, StatementLine, card, is_comment, is_continued, last_column, last_location_column, last_variable_column}
use Rattle.cps_text.specs.Text.{is_blank}

-- the character in a column, and the characters from one column to another
abbrev pub in_column : List ℕ → ℕ → ℕ
in_column card column = slice_index_or card (column - 1) (code " ")

abbrev pub columns : List ℕ → ℕ → ℕ → List ℕ
columns card first last = drop (first - 1) (take last card)

abbrev pub AreBlank : List ℕ → ℕ → ℕ → Type 0
AreBlank card first last = (column : ℕ) → first ≤ column → column ≤ last → is_blank (in_column card column) ≡ true

abbrev pub AreFilled : List ℕ → ℕ → ℕ → Type 0
AreFilled card first last = (column : ℕ) → first ≤ column → column ≤ last → is_blank (in_column card column) ≡ false

-- A field is a maximal run of characters that aren't blank.
pub record IsField (card : List ℕ) (first last : ℕ) (field : List ℕ) : Type 0 where
  pub characters : field ≡ columns card first last
  pub some : first ≤ last
  pub filled : AreFilled card first last
  pub left : 1 < first → is_blank (in_column card (first - 1)) ≡ true
  pub right : is_blank (in_column card (last + 1)) ≡ true

-- The next field from a column on begins in it or in a later one, up to a greatest.
pub record Begins (card : List ℕ) (least greatest : ℕ) (field : List ℕ) (last : ℕ) : Type 0 where
  pub first : ℕ
  pub late : least ≤ first
  pub early : first ≤ greatest
  pub blanks : AreBlank card least (first - 1)
  pub is : IsField card first last field

-- It begins in none of these columns. Then it is empty, and no column is passed over.
pub record IsAbsent (card : List ℕ) (least greatest : ℕ) (field : List ℕ) (last : ℕ) : Type 0 where
  pub blanks : AreBlank card least greatest
  pub empty : field ≡ []
  pub nothing : last + 1 ≡ least

abbrev pub IsNext : List ℕ → ℕ → ℕ → List ℕ → ℕ → Type 0
IsNext card least greatest field last = Begins card least greatest field last ⊎ IsAbsent card least greatest field last

-- The text through the last column, from the next one on that isn't blank.
pub record IsRest (card : List ℕ) (least : ℕ) (text : List ℕ) : Type 0 where
  pub first : ℕ
  pub late : least ≤ first
  pub blanks : AreBlank card least (first - 1)
  pub begins : first ≤ length card → is_blank (in_column card first) ≡ false
  pub characters : text ≡ columns card first last_column

-- The location field begins in column 1 or 2. The operation field is the next one, in column 3 at the earliest; the variable field is
-- the one behind it, if it begins before column 30. The comment is the rest behind them; the tail begins with the variable field.
pub record AreFields (card : List ℕ) (fields : StatementFields) : Type 0 where
  pub location_end : ℕ
  pub location : IsNext card 1 last_location_column fields.location location_end
  pub operation_end : ℕ
  pub operation : IsNext card (max last_location_column location_end + 1) last_column fields.operation operation_end
  pub variable_end : ℕ
  pub variable : IsNext card (operation_end + 1) last_variable_column fields.variable variable_end
  pub comment : IsRest card (variable_end + 1) fields.comment
  pub no_tail : fields.variable ≡ [] → fields.tail ≡ []
  pub tail : 0 < length fields.variable → fields.tail ≡ columns card (variable_end + 1 - length fields.variable) last_column

-- what a line is
abbrev pub IsCard : List ℕ → LineFields → Type 0
IsCard line CommentLine = is_comment (card line) ≡ true
IsCard line ContinuedLine = (is_comment (card line) ≡ false) × (is_continued (card line) ≡ true)
IsCard line (StatementLine fields) = (is_comment (card line) ≡ false) × (is_continued (card line) ≡ false) × AreFields (card line) fields
