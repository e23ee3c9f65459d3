-- For the digits of listings that are kept by address, not part of what a reader believes: they are kept.
use Rattle.std.specs.Prelude.{◌≡◌, ◌+◌, ◌<◌, ℕ, List, [], ◌∷◌, ◌++◌, length, slice_get}
use Rattle.std.specs.Option.{option_map_or}
use Rattle.cps_claims.specs.declared.listed_digit.ListedDigit.{ListedDigit}
use Rattle.cps_claims.specs.declared.listed_word.ListedWord.{ListedWord}
use Rattle.cps_claims.specs.declared.listed_words.ListedWords.{ListedWords}
use Rattle.cps_claims.specs.declared.own_reading.OwnReading.{OwnReading}
use Rattle.cps_claims.specs.declared.row.RowReading.{RowReading}
use Rattle.cps_claims.specs.declared.row.RowReading.TheVariants.{Read, Blank, Other, Unread}
use Rattle.cps_claims.specs.Rows.{Row}
use Rattle.cps_claims.specs.Listed.{ListedCode, listed_at, codes_from}
use Rattle.cps_claims.specs.Code.States.{kinds_of, no_kinds, with_kinds}

abbrev pub digits_at : List ListedWord → ℕ → List ListedDigit
digits_at words address = option_map_or (λ word. word.digits.items) (slice_get words address) []

-- the digits of these codes are kept
abbrev pub Lists : ListedWords → List ListedCode → Type 0
Lists words codes = (address : ℕ) → digits_at words.words.items address ≡ listed_at codes address

-- a code is added to those that are kept
abbrev pub AddsCode : ListedCode → ListedWords → ListedWords → Type 0
AddsCode code old new = (codes : List ListedCode) → Lists old codes → Lists new (codes ++ code ∷ [])

-- a row that is read has an address
abbrev pub IsBelow : RowReading → Type 0
IsBelow (Read address place) = address < 262144
IsBelow Blank = Unit {0}
IsBelow Other = Unit {0}
IsBelow (Unread reason) = Unit {0}

-- these rows are read
pub record HasRead (rows : List Row) (reading : OwnReading) : Type 0 where
  pub kinds : kinds_of reading.rows ≡ with_kinds 1 no_kinds rows
  pub words : Lists reading.words (codes_from 1 rows)

-- the row of a number is added to those that are read
abbrev pub AddsOwnRow : ℕ → Row → OwnReading → OwnReading → Type 0
AddsOwnRow number row old new = (before : List Row) → number ≡ length before + 1 → HasRead before old → HasRead (before ++ row ∷ []) new
