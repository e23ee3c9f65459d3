-- This program's own listing: what each of its rows is, and the digits that it lists at each address. It rounds a field up to digits, so what
-- stands at an address can only be compared with another listing. Our own.
use Rattle.std.specs.Prelude.{ℕ, ◌+◌, Bool, not, ◌==◌, ◌&&◌, ◌||◌, List, [], ◌∷◌, ◌++◌, length, map, flat_map, filter, Some, if◌then◌else◌}
use Rattle.std.specs.List.{list_all, slice_split}
use Rattle.std.specs.Option.{option_map_or}
use Rattle.cps_claims.specs.declared.layout.WordOffset.{WordOffset}
use Rattle.cps_claims.specs.declared.listed_digit.ListedDigit.{ListedDigit}
use Rattle.cps_claims.specs.declared.reason.UnreadReason.TheVariants.{DamagedDigits, NoAddress, NoSuchAddress}
use Rattle.cps_claims.specs.Columns.{columns_read}
use Rattle.cps_claims.specs.Parts.{is_blank, are_digits, number_in}
use Rattle.cps_claims.specs.Rows.{Row, read, blank, other, unread, meant, is_newline}

-- ---- a row

-- columns count from 1
abbrev pub columns_from : ℕ → ℕ → List ℕ → List ℕ
columns_from first last row = columns_read (Some (record { first = first; last = last })) row

abbrev pub address_column : List ℕ → List ℕ
address_column row = columns_from 10 15 row

-- the digits of the code, of which a second word stands behind a blank
abbrev pub code_digits : List ℕ → List ℕ
code_digits row = filter (λ byte. not (is_blank byte)) (columns_from 17 36 row)

-- whether the columns beside the code are blank
abbrev pub stands_apart : List ℕ → Bool
stands_apart row = list_all is_blank (columns_from 16 16 row) && list_all is_blank (columns_from 37 37 row)

-- a row with an address and a code; the place is that of its own first digit
abbrev pub code_row : WordOffset → List ℕ → Row
code_row offset row =
    option_map_or
    (λ address.
    if are_digits (code_digits row) && stands_apart row
    then option_map_or (λ at. read (record { address = at; place = 0; digits = code_digits row })) (meant offset address 1) (unread NoSuchAddress)
    else unread DamagedDigits)
    (number_in (address_column row))
    (unread NoAddress)

abbrev pub own_row : WordOffset → List ℕ → Row
own_row offset row =
    if list_all is_blank row then blank
    else if list_all is_blank (address_column row) || (length (code_digits row) == 0) then other
    else code_row offset row

-- the rows of a text; behind a last newline stands one more, which is blank
abbrev pub own_rows : WordOffset → List ℕ → List Row
own_rows offset text = map (own_row offset) (slice_split is_newline text)

-- ---- the digits

-- a code that is listed, and the number of what lists it: of a row of a text, or of a line of a source
pub record ListedCode : Type 0 where
  pub by : ℕ
  pub address : ℕ
  pub digits : List ℕ

abbrev pub listed_by : ℕ → List ℕ → List ListedDigit
listed_by number digits = map (λ digit. record { digit = digit; by = number }) digits

-- the digits of a code, where it is for an address
abbrev pub listed_for : ℕ → ListedCode → List ListedDigit
listed_for address code = if code.address == address then listed_by code.by code.digits else []

-- the codes at an address, one behind another
abbrev pub listed_at : List ListedCode → ℕ → List ListedDigit
listed_at codes address = flat_map (listed_for address) codes

abbrev pub code_of : ℕ → Row → List ListedCode
code_of number (read claim) = record { by = number; address = claim.address; digits = claim.digits } ∷ []
code_of number blank = []
code_of number other = []
code_of number (unread reason) = []

-- the codes of rows that have numbers from one on
abbrev pub codes_from : ℕ → List Row → List ListedCode
codes_from number [] = []
codes_from number (row ∷ rows) = code_of number row ++ codes_from (number + 1) rows
