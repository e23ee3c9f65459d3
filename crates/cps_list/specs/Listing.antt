-- The listing: the rows of each statement, with their flags, their addresses and their codes, and beside the first the line as it was given, or the text
-- of a statement of an expansion; and a last row where the source ends while a range is open. The columns are our profile's.
use Rattle.std.specs.Prelude.{ℕ, ◌==◌, Bool, List, [], ◌∷◌, ◌++◌, take, codes, decimal, flat_map, Option, None, Some, if◌then◌else◌}
use Rattle.std.specs.List.{list_all}
use Rattle.cps_text.specs.Text.{is_blank}
use Rattle.cps_text.specs.Octal.{octal}
use Rattle.cps_state.specs.Flags.{letters}
use Rattle.cps_text.specs.Line.{longest_line}
use Rattle.cps_final.specs.declared.row.Row.{Row}
use Rattle.cps_final.specs.declared.octal_digits.OctalDigits.{OctalDigits}
use Rattle.cps_list.specs.Columns.{Column, at_right, last_of, laid_out}

-- ---- what stands in a column

abbrev pub address_text : Option ℕ → List ℕ
address_text None = []
address_text (Some address) = octal 6 address

abbrev pub code_text : Option OctalDigits → List ℕ
code_text None = []
code_text (Some digits) = octal digits.count digits.number

-- the second word of an instruction, behind a blank
abbrev pub second_text : Option OctalDigits → List ℕ
second_text None = []
second_text (Some digits) = codes " " ++ octal digits.count digits.number

-- a line has its number, of which the last six digits stand, and a statement of an expansion `+`
abbrev pub number_text : ℕ → ℕ → List ℕ
number_text depth number = if depth == 0 then last_of 6 (decimal number) else codes "+"

-- a line stands as it was given; of a statement of an expansion no more is shown than a line may have
abbrev pub text_shown : ℕ → List ℕ → List ℕ → List ℕ
text_shown depth line text = if depth == 0 then line else take longest_line text

-- ---- rows

-- the number in columns 38 to 43, at their right, and the line or the text from 45 on; later rows of a statement have neither
abbrev pub statement_columns : ℕ → List ℕ → Row → List Column
statement_columns number line row =
    if row.is_later then []
    else
    record { first = 38; text = at_right 6 (number_text row.depth number) }
    ∷ record { first = 45; text = text_shown row.depth line row.text }
    ∷ []

-- the flags in columns 1 to 8, the address in 10 to 15, the code in 17 to 36
abbrev pub row_columns : ℕ → List ℕ → Row → List Column
row_columns number line row =
    record { first = 1; text = letters row.flags }
    ∷ record { first = 10; text = address_text row.location }
    ∷ record { first = 17; text = code_text row.code ++ second_text row.second }
    ∷ statement_columns number line row

-- a text without the blanks at its end
abbrev pub trimmed : List ℕ → List ℕ
trimmed [] = []
trimmed (c ∷ text) = if list_all is_blank (c ∷ text) then [] else c ∷ trimmed text

abbrev pub listing_row : ℕ → List ℕ → Row → List ℕ
listing_row number line row = trimmed (laid_out (row_columns number line row)) ++ codes "\n"

-- ---- lines

-- the rows of a line
abbrev pub line_rows : ℕ → List ℕ → List Row → List ℕ
line_rows number line rows = flat_map (listing_row number line) rows

-- the columns of the last row of a source that ends while a range is open
abbrev pub open_columns : List Column
open_columns =
    record { first = 1; text = codes "E" }
    ∷ record { first = 45; text = codes "open range at end of source" }
    ∷ []

abbrev pub open_row : Bool → List ℕ
open_row is_open = if is_open then laid_out open_columns ++ codes "\n" else []
