-- What it says of an octal text that no word differs; and that no row is passed over. Our own.
use Rattle.std.specs.Prelude.{◌≡◌, ℕ, ◌+◌, false, true, List, All, length, count_by}
use Rattle.cps_claims.specs.declared.layout.OctalLayout.{OctalLayout}
use Rattle.cps_claims.specs.Claims.{Claimed, Words, known, agrees, differs}
use Rattle.cps_claims.specs.Rows.{Row, rows_of}
use Rattle.cps_claims.specs.Reading.{is_read, is_blank_row, is_other, is_unread}

-- where no word differs each known claim agrees with the deck
abbrev pub NoWordDiffersSoAllAgree : Type 0
NoWordDiffersSoAllAgree =
    (words : Words) → (claims : List Claimed) → ((address : ℕ) → differs words claims address ≡ false)
    → All (λ claim. agrees words claim ≡ true) (known claims)

-- each row is one: read, blank, of other text, or not read
abbrev pub EachRowIsOne : Type 0
EachRowIsOne = (layout : OctalLayout) → (rows : List (List ℕ)) → length (rows_of layout rows) ≡ length rows

-- so the four counts make up all rows
abbrev pub EachRowIsCounted : Type 0
EachRowIsCounted =
    (rows : List Row) → count_by is_read rows + count_by is_blank_row rows + count_by is_other rows + count_by is_unread rows ≡ length rows
