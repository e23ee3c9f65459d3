-- For the code of rows, not part of what a reader believes: a row in the making, of which the columns before the line are there from the beginning.
use Rattle.std.specs.Prelude.{◌≡◌, ℕ, ◌≤◌, List, [], ◌∷◌, ◌++◌, length, None, Result, IfSome, OnOk, if◌then◌else◌}
use Rattle.cps_state.specs.Flags.{letters}
use Rattle.cps_final.specs.declared.row.Row.{Row}
use Rattle.cps_list.specs.Columns.{Column, at_left, at_right, laid_out, with_column}
use Rattle.cps_list.specs.Listing.{address_text, code_text, number_text, trimmed}

-- a row, and a text from a column on
abbrev pub with_text : List ℕ → ℕ → List ℕ → List ℕ
with_text row first text = with_column row (record { first = first; text = text })

-- a front in which what has begun takes so many columns at most, and blanks fill the rest
pub record IsFront (front begun : List ℕ) (columns : ℕ) : Type 0 where
  pub filled : front ≡ at_left 44 begun
  pub within : length begun ≤ columns

-- where nothing failed, the row that begins at a length has become another
abbrev pub RowBecomes : {T E : Type 0} → Result T E → List ℕ → List ℕ → ℕ → (List ℕ → List ℕ) → Type 0
RowBecomes result old new before change = (front row : List ℕ) → old ≡ front ++ row → before ≡ length front → OnOk result (new ≡ front ++ change row)

-- a row without a second word, with no more digits than its columns have
pub record IsNarrow (row : Row) : Type 0 where
  pub alone : row.second ≡ None
  pub few : IfSome row.code (λ code. code.count ≤ 20)

-- the columns of such a row before the line
abbrev pub front_columns : ℕ → Row → List Column
front_columns number row =
    record { first = 1; text = letters row.flags }
    ∷ record { first = 10; text = address_text row.location }
    ∷ record { first = 17; text = code_text row.code }
    ∷ (if row.is_later then [] else record { first = 38; text = at_right 6 (number_text row.depth number) } ∷ [])

-- a text with a row more, up to blanks at its end
pub record HasRow (old new : List ℕ) (columns : List Column) : Type 0 where
  pub row : List ℕ
  pub whole : new ≡ old ++ row
  pub same : trimmed row ≡ trimmed (laid_out columns)

-- a text with a front more
pub record HasFront (old new : List ℕ) (columns : List Column) : Type 0 where
  pub front : List ℕ
  pub whole : new ≡ old ++ front
  pub is : IsFront front (laid_out columns) 43
