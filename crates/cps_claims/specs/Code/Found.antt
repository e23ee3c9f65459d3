-- For the functions that read a row, not part of what a reader believes: what they found.
use Rattle.std.specs.Prelude.{◌≡◌, ℕ, ◌+◌, ◌≤◌, Bool, true, false, List, [], length, Option, Result, IfOk}
use Rattle.std.specs.List.{slice_split}
use Rattle.std.specs.Option.{option_map_or}
use Rattle.std.specs.Borrow.{Bor}
use Rattle.std.specs.declared.alloc.AllocError.{AllocError}
use Rattle.cps_claims.specs.declared.layout.OctalLayout.{OctalLayout}
use Rattle.cps_claims.specs.declared.layout.WordForm.{WordForm}
use Rattle.cps_claims.specs.declared.row.RowReading.{RowReading}
use Rattle.cps_claims.specs.declared.row.RowReading.TheVariants as code
use Rattle.cps_claims.specs.declared.stand.RowStand.{RowStand}
use Rattle.cps_claims.specs.Words.{size_of, most_words}
use Rattle.cps_claims.specs.Rows.{Row, read, blank, other, unread, words_in, is_newline, first_address}

-- a row that has these digits
abbrev pub row_with : List ℕ → RowReading → Row
row_with digits (code.Read address place) = read (record { address = address; place = place; digits = digits })
row_with digits code.Blank = blank
row_with digits code.Other = other
row_with digits (code.Unread reason) = unread reason

-- and where it stands then
abbrev pub row_found : List ℕ → RowReading × RowStand → Row × RowStand
row_found digits found = (row_with digits found.0, found.1)

-- this is found, if there was memory
abbrev pub Finds : Result (RowReading × RowStand) AllocError → List ℕ → Row × RowStand → Type 0
Finds result digits found = IfOk result (λ got. row_found digits got ≡ found)

-- a row that is read begins in a word, and its words have addresses
abbrev pub IsWithin : WordForm → List ℕ → RowReading → Type 0
IsWithin form digits (code.Read address place) = (place ≤ 20) × (address + words_in (size_of form) (place + length digits) ≤ most_words)
IsWithin form digits code.Blank = Unit {0}
IsWithin form digits code.Other = Unit {0}
IsWithin form digits (code.Unread reason) = Unit {0}

-- whether the digits of a row were looked at
abbrev pub has_digits : RowReading → Bool
has_digits (code.Read address place) = true
has_digits code.Blank = false
has_digits code.Other = false
has_digits (code.Unread reason) = true

-- the last address that the rows above claim
abbrev pub reached : RowStand → ℕ
reached stand = option_map_or (λ place. place.address) stand.place 0

-- the rows of what stands behind a row
abbrev pub rows_left : Option (Bor (List ℕ)) → List (List ℕ)
rows_left behind = option_map_or (λ text. slice_split is_newline text.now) behind []

-- the address with which the first of them begins
abbrev pub address_behind : OctalLayout → Option (Bor (List ℕ)) → Option ℕ
address_behind layout behind = first_address layout (rows_left behind)
