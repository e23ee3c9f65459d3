-- Rows of columns. Our own.
use Rattle.std.specs.Prelude.{ℕ, ◌-◌, List, [], ◌++◌, length, drop, fold, replicate, slice_index, codes}

abbrev pub blanks : ℕ → List ℕ
blanks count = replicate count (slice_index (codes " ") 0)

-- a text at the left, and at the right, of so many columns
abbrev pub at_left : ℕ → List ℕ → List ℕ
at_left width text = text ++ blanks (width - length text)

abbrev pub at_right : ℕ → List ℕ → List ℕ
at_right width text = blanks (width - length text) ++ text

-- the last so many characters of a text
abbrev pub last_of : ℕ → List ℕ → List ℕ
last_of count text = drop (length text - count) text

-- a text from a column on; columns count from 1
pub record Column : Type 0 where
  pub first : ℕ
  pub text : List ℕ

-- a row, and a text from its column on, with blanks between
abbrev pub with_column : List ℕ → Column → List ℕ
with_column row column = at_left (column.first - 1) row ++ column.text

-- a row, and more columns
abbrev pub with_columns : List ℕ → List Column → List ℕ
with_columns row columns = fold with_column row columns

-- the row that columns make
abbrev pub laid_out : List Column → List ℕ
laid_out columns = with_columns [] columns
