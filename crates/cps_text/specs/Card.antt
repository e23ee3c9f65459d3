-- The fields of a line, computed: `Columns.antt` has the rule. A card has 80 columns, of which 1 to 72 are read; a line stands for one.
-- From the manual's section on the statement format. Places are counted from 0 here: column 3 is place 2.
use Rattle.std.specs.Prelude.{ℕ, ◌+◌, max, Bool, ◌||◌, nat_lt, List, [], take, drop, codes, if◌then◌else◌}
use Rattle.std.specs.List.{list_all, position_or_len, before_first}
use Rattle.cps_text.specs.Text.{begins_with, is_blank, is_filled}

-- the last column that is read, and the last ones in which the location field and the variable field begin, from 1
abbrev pub last_column : ℕ
last_column = 72

abbrev pub last_location_column : ℕ
last_location_column = 2

abbrev pub last_variable_column : ℕ
last_variable_column = 29

-- the columns of a line that are read
abbrev pub card : List ℕ → List ℕ
card text = take last_column text

-- the first place from one on that isn't blank, and the first one that is; the end where there is none
abbrev pub filled_from : List ℕ → ℕ → ℕ
filled_from text at = at + position_or_len is_filled (drop at text)

abbrev pub blank_from : List ℕ → ℕ → ℕ
blank_from text at = at + position_or_len is_blank (drop at text)

-- the characters from a place on, up to a blank
abbrev pub field_at : List ℕ → ℕ → List ℕ
field_at text at = before_first is_blank (drop at text)

-- the location field begins in column 1 or 2, at the first of them that isn't blank
abbrev pub has_location : List ℕ → Bool
has_location text = nat_lt (filled_from text 0) last_location_column

abbrev pub location_of : List ℕ → List ℕ
location_of text = if has_location text then field_at text (filled_from text 0) else []

abbrev pub location_end : List ℕ → ℕ
location_end text = if has_location text then blank_from text (filled_from text 0) else 0

-- the operation field is the next one, in column 3 at the earliest
abbrev pub operation_at : List ℕ → ℕ
operation_at text = filled_from text (max last_location_column (location_end text))

-- the variable field is the one behind it, if it begins before column 30
abbrev pub behind_operation : List ℕ → ℕ
behind_operation text = filled_from text (blank_from text (operation_at text))

abbrev pub has_variable : List ℕ → Bool
has_variable text = nat_lt (behind_operation text) last_variable_column

-- what stands behind the variable field; behind the operation field where there is no variable field
abbrev pub comment_at : List ℕ → ℕ
comment_at text = if has_variable text then filled_from text (blank_from text (behind_operation text)) else behind_operation text

-- the tail is the text from the variable field's first column on
pub record StatementFields : Type 0 where
  pub location : List ℕ
  pub operation : List ℕ
  pub variable : List ℕ
  pub comment : List ℕ
  pub tail : List ℕ

abbrev pub statement_of : List ℕ → StatementFields
statement_of text = record {
  location = location_of text;
  operation = field_at text (operation_at text);
  variable = if has_variable text then field_at text (behind_operation text) else [];
  comment = drop (comment_at text) text;
  tail = if has_variable text then drop (behind_operation text) text else [];
}

-- a comment has `*` in column 1, or nothing but blanks
abbrev pub is_comment : List ℕ → Bool
is_comment text = begins_with (codes "*") text || list_all is_blank text

-- a line that continues the one before has `,` in column 1
abbrev pub is_continued : List ℕ → Bool
is_continued text = begins_with (codes ",") text

-- what a line is
pub data LineFields : Type 0 where
  CommentLine : LineFields
  ContinuedLine : LineFields
  StatementLine : StatementFields → LineFields

abbrev pub fields_of : List ℕ → LineFields
fields_of line =
    if is_comment (card line) then CommentLine
    else (if is_continued (card line) then ContinuedLine else StatementLine (statement_of (card line)))
