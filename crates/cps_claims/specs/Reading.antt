-- What is known of an octal text behind its last row. Our own.
use Rattle.std.specs.Prelude.{◌≡◌, ℕ, ◌+◌, Bool, true, false, List, [], ◌∷◌, count_by, Option, None, Some}
use Rattle.cps_claims.specs.declared.reading.UnreadRow.{UnreadRow}
use Rattle.cps_claims.specs.declared.reading.RowKinds.{RowKinds}
use Rattle.cps_claims.specs.Rows.{Row, read, blank, other, unread}

abbrev pub is_read : Row → Bool
is_read (read claim) = true
is_read blank = false
is_read other = false
is_read (unread reason) = false

abbrev pub is_blank_row : Row → Bool
is_blank_row (read claim) = false
is_blank_row blank = true
is_blank_row other = false
is_blank_row (unread reason) = false

abbrev pub is_other : Row → Bool
is_other (read claim) = false
is_other blank = false
is_other other = true
is_other (unread reason) = false

abbrev pub is_unread : Row → Bool
is_unread (read claim) = false
is_unread blank = false
is_unread other = false
is_unread (unread reason) = true

-- the rows that aren't read, with their numbers, of rows that have numbers from one on
abbrev pub unread_from : ℕ → List Row → List UnreadRow
unread_from number [] = []
unread_from number (read claim ∷ rows) = unread_from (number + 1) rows
unread_from number (blank ∷ rows) = unread_from (number + 1) rows
unread_from number (other ∷ rows) = unread_from (number + 1) rows
unread_from number (unread reason ∷ rows) = record { number = number; reason = reason } ∷ unread_from (number + 1) rows

-- the number of the first row of other text
abbrev pub first_other_from : ℕ → List Row → Option ℕ
first_other_from number [] = None
first_other_from number (read claim ∷ rows) = first_other_from (number + 1) rows
first_other_from number (blank ∷ rows) = first_other_from (number + 1) rows
first_other_from number (other ∷ rows) = Some number
first_other_from number (unread reason ∷ rows) = first_other_from (number + 1) rows

-- Rows are counted by what they are, and those that aren't read are listed. Rows count from 1.
pub record IsReading (rows : List Row) (kinds : RowKinds) : Type 0 where
  pub count_read : kinds.counts.read ≡ count_by is_read rows
  pub count_blank : kinds.counts.blank ≡ count_by is_blank_row rows
  pub count_other : kinds.counts.other ≡ count_by is_other rows
  pub count_unread : kinds.counts.unread ≡ count_by is_unread rows
  pub first_other : kinds.first_other ≡ first_other_from 1 rows
  pub unread_rows : kinds.unread.items ≡ unread_from 1 rows
