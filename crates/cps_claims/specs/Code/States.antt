-- For the loop over a text, not part of what a reader believes: what one row more leaves.
use Rattle.std.specs.Prelude.{◌≡◌, ℕ, ◌+◌, List, [], ◌∷◌, ◌++◌, Option, None, Some}
use Rattle.std.specs.Option.{option_or}
use Rattle.cps_claims.specs.declared.layout.WordForm.{WordForm}
use Rattle.cps_claims.specs.declared.reading.RowCounts.{RowCounts}
use Rattle.cps_claims.specs.declared.reading.UnreadRow.{UnreadRow}
use Rattle.cps_claims.specs.declared.reading.RowKinds.{RowKinds}
use Rattle.cps_claims.specs.declared.reading.OctalReading.{OctalReading}
use Rattle.cps_claims.specs.declared.reading.OctalReader.{OctalReader}
use Rattle.cps_claims.specs.declared.stand.RowStand.{RowStand}
use Rattle.cps_claims.specs.Words.{size_of}
use Rattle.cps_claims.specs.Columns.{columns_read}
use Rattle.cps_claims.specs.Parts.{parts_of}
use Rattle.cps_claims.specs.Rows.{Row, read, blank, other, unread, row_among, first_address, digits_behind}
use Rattle.cps_claims.specs.Claims.{digits_from}
use Rattle.cps_claims.specs.Code.Slots.{WordState, none_claimed, after, state_at}

-- what the rows are so far
pub record KindsState : Type 0 where
  pub counts : RowCounts
  pub first_other : Option ℕ
  pub unread_rows : List UnreadRow

-- what is known behind a row
pub record ReadingState : Type 0 where
  pub kinds : KindsState
  pub words : ℕ → WordState

abbrev pub no_rows : RowCounts
no_rows = record { read = 0; blank = 0; other = 0; unread = 0 }

abbrev pub no_kinds : KindsState
no_kinds = record { counts = no_rows; first_other = None; unread_rows = [] }

abbrev pub at_first : ReadingState
at_first = record { kinds = no_kinds; words = none_claimed }

abbrev pub kinds_of : RowKinds → KindsState
kinds_of rows = record { counts = rows.counts; first_other = rows.first_other; unread_rows = rows.unread.items }

abbrev pub state_of : OctalReading → ReadingState
state_of reading = record { kinds = kinds_of reading.rows; words = state_at reading.words.words.items }

-- one row more of each kind
abbrev pub with_kind : ℕ → KindsState → Row → KindsState
with_kind number kinds (read claim) = record kinds { counts = record kinds.counts { read = kinds.counts.read + 1 } }
with_kind number kinds blank = record kinds { counts = record kinds.counts { blank = kinds.counts.blank + 1 } }
with_kind number kinds other = record kinds {
  counts = record kinds.counts { other = kinds.counts.other + 1 };
  first_other = option_or kinds.first_other (Some number);
}
with_kind number kinds (unread reason) = record kinds {
  counts = record kinds.counts { unread = kinds.counts.unread + 1 };
  unread_rows = kinds.unread_rows ++ record { number = number; reason = reason } ∷ [];
}

abbrev pub with_kinds : ℕ → KindsState → List Row → KindsState
with_kinds number kinds [] = kinds
with_kinds number kinds (row ∷ rows) = with_kinds (number + 1) (with_kind number kinds row) rows

-- and what it claims
abbrev pub with_claims : WordForm → ℕ → (ℕ → WordState) → Row → ℕ → WordState
with_claims form number words (read claim) = after words (digits_from (size_of form) number claim.address claim.place claim.digits)
with_claims form number words blank = words
with_claims form number words other = words
with_claims form number words (unread reason) = words

abbrev pub with_row : WordForm → ℕ → ReadingState → Row → ReadingState
with_row form number state row = record { kinds = with_kind number state.kinds row; words = with_claims form number state.words row }

abbrev pub with_rows : WordForm → ℕ → ReadingState → List Row → ReadingState
with_rows form number state [] = state
with_rows form number state (row ∷ rows) = with_rows form (number + 1) (with_row form number state row) rows

abbrev pub total : RowCounts → ℕ
total counts = counts.read + counts.blank + counts.other + counts.unread

-- what a reader finds in a row, with those behind it
abbrev pub found_by : OctalReader → List ℕ → List (List ℕ) → Row × RowStand
found_by reader row rows =
    row_among reader.layout reader.stand reader.digits.items (parts_of (columns_read reader.layout.columns row)) (first_address reader.layout rows)

-- a row is added to what is known
abbrev pub AddsRow : WordForm → ℕ → Row → OctalReading → OctalReading → Type 0
AddsRow form number row old new = state_of new ≡ with_row form number (state_of old) row

-- a reader reads a row
pub record Reads (old : OctalReader) (row : List ℕ) (rows : List (List ℕ)) (new : OctalReader) : Type 0 where
  pub layout : new.layout ≡ old.layout
  pub number : new.number ≡ old.number + 1
  pub stand : new.stand ≡ (found_by old row rows).1
  pub digits : new.digits.items ≡ digits_behind old.digits.items (found_by old row rows).0
  pub state : AddsRow old.layout.form (old.number + 1) (found_by old row rows).0 old.reading new.reading
