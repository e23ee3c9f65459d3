-- What is told of words that differ. The layout is our own.
use Rattle.std.specs.Prelude.{ℕ, zero, suc, ◌+◌, ◌-◌, Bool, true, false, not, ◌==◌, ◌&&◌, ◌||◌, nat_le, nat_lt, List, [], ◌∷◌, ◌++◌, length, map, filter, flat_map, take, drop, codes, bytes_eq, decimal, slice_index, slice_index_or, Option, None, Some, is_some, if◌then◌else◌}
use Rattle.std.specs.List.{range_with_len, position_or_len, slice_split}
use Rattle.std.specs.Option.{option_map_or}
use Rattle.cps_text.specs.Octal.{octal}
use Rattle.cps_text.specs.Text.{is_filled}
use Rattle.cps_list.specs.Columns.{Column, laid_out}
use Rattle.cps_claims.specs.Rows.{Row}
use Rattle.cps_claims.specs.Claims.{Claimed, Words, differs}
use Rattle.cps_claims.specs.Counts.{is_given}
use Rattle.cps_claims.specs.Shown.{first_row, last_row, again_row}
use Rattle.cps_compare.specs.declared.maker.Maker.{Maker}
use Rattle.cps_compare.specs.declared.maker.Maker.TheVariants.{Nobody, Line, Literal}
use Rattle.cps_compare.specs.Findings.{Findings}
use Rattle.cps_compare.specs.Given.{Given, given_at, shown_word, again_word, has_denied, known_in, unknown_in, denied_in}
use Rattle.cps_compare.specs.Differences.{lacks, places_of}

-- an octal text and a source
pub record Sides : Type 0 where
  -- of the text: what each of its rows is, and what they claim
  pub rows : List Row
  pub claims : List Claimed
  -- of the source: its words; what made their digits; its lines; and the statements of expansions, by line and address
  pub words : Words
  pub maker : ℕ → ℕ → Maker
  pub lines : List (List ℕ)
  pub statements : ℕ → ℕ → List (List ℕ)
  -- whether all words must be given
  pub whole : Bool

abbrev pub given_for : Sides → ℕ → Given
given_for sides address = given_at sides.claims address

-- ---- the two words

abbrev pub deck_text : Option (List ℕ) → List ℕ
deck_text None = codes "(no word)"
deck_text (Some word) = word

-- the rows of the text that have the digits of a word; rows count from 1
pub record GivenRows : Type 0 where
  -- the first and the last that tell something of it, and the first that says otherwise
  pub first : ℕ
  pub last : ℕ
  pub again : ℕ

abbrev pub rows_for : List Claimed → ℕ → GivenRows
rows_for claims address = record { first = first_row claims address; last = last_row claims address; again = again_row claims address }

abbrev pub rows_text : GivenRows → List ℕ
rows_text rows =
    if rows.first == rows.last then codes "  row " ++ decimal rows.first
    else codes "  rows " ++ decimal rows.first ++ codes " to " ++ decimal rows.last

abbrev pub has_bytes : List ℕ → Bool
has_bytes text = nat_lt 0 (length text)

abbrev pub octal_text : Given → GivenRows → List ℕ
octal_text given rows = if has_bytes (shown_word given) then shown_word given ++ rows_text rows else codes "(no digits)"

abbrev pub again_told : Given → GivenRows → List ℕ
again_told given rows = codes "       again " ++ again_word given ++ codes "  row " ++ decimal rows.again ++ codes "\n"

abbrev pub again_text : Given → GivenRows → List ℕ
again_text given rows = if has_denied given then again_told given rows else []

abbrev pub word_rows : ℕ → Option (List ℕ) → Given → GivenRows → List ℕ
word_rows address word given rows =
    octal 6 address ++ codes " deck  " ++ deck_text word ++ codes "\n       octal " ++ octal_text given rows ++ codes "\n"
    ++ again_text given rows

-- a caret below a digit; the first one stands in column 14
abbrev pub caret_at : ℕ → Column
caret_at place = record { first = place + 14; text = codes "^" }

-- a caret below each digit that differs
abbrev pub caret_row : List ℕ → List ℕ
caret_row at = laid_out (map caret_at at) ++ codes "\n"

-- ---- the lines

abbrev pub is_same : Maker → Maker → Bool
is_same Nobody Nobody = true
is_same (Line a) (Line b) = a == b
is_same Literal Literal = true
is_same _ _ = false

-- a line, whose number counts from 1
abbrev pub line_at : List (List ℕ) → ℕ → List ℕ
line_at lines zero = []
line_at lines (suc before) = slice_index_or lines before []

-- from its first character on that is no blank
abbrev pub trimmed : List ℕ → List ℕ
trimmed line = drop (position_or_len is_filled line) line

abbrev pub line_row : ℕ → List ℕ → List ℕ
line_row number line = codes "       line " ++ decimal number ++ codes ": " ++ trimmed line ++ codes "\n"

abbrev pub statement_row : List ℕ → List ℕ
statement_row text = codes "       + " ++ trimmed text ++ codes "\n"

-- the statements of an expansion, each that isn't the same as the one before
abbrev pub statement_rows : List ℕ → List (List ℕ) → List ℕ
statement_rows last [] = []
statement_rows last (text ∷ texts) = (if bytes_eq last text then [] else statement_row text) ++ statement_rows text texts

-- what made a digit of a word: its lines, and the statements of expansions that show a code there, by line
abbrev pub maker_row : List (List ℕ) → (ℕ → List (List ℕ)) → Maker → List ℕ
maker_row lines statements Nobody = []
maker_row lines statements (Line number) = line_row number (line_at lines number) ++ statement_rows [] (statements number)
maker_row lines statements Literal = codes "       a literal\n"

-- the rows of makers, each that isn't the same as the one before
abbrev pub maker_rows : List (List ℕ) → (ℕ → List (List ℕ)) → Maker → List Maker → List ℕ
maker_rows lines statements last [] = []
maker_rows lines statements last (maker ∷ makers) =
    (if is_same last maker then [] else maker_row lines statements maker) ++ maker_rows lines statements maker makers

-- the rows of what made the digits at places of a word
abbrev pub made_rows : List (List ℕ) → (ℕ → List (List ℕ)) → (ℕ → Maker) → List ℕ → List ℕ
made_rows lines statements maker at = maker_rows lines statements Nobody (map maker at)

-- ---- the rows of a word

-- the rows below two words: carets, where digits are given, and what made those that differ
abbrev pub digit_rows : Sides → ℕ → List ℕ → List ℕ
digit_rows sides address word =
    let given = given_for sides address in
    let at = places_of sides.whole word given in
    (if has_bytes (shown_word given) then caret_row at else [])
    ++ made_rows sides.lines (λ number. sides.statements number address) (sides.maker address) at

abbrev pub rows_at : Sides → ℕ → List ℕ
rows_at sides address =
    word_rows address (sides.words address) (given_for sides address) (rows_for sides.claims address)
    ++ option_map_or (digit_rows sides address) (sides.words address) []

-- ---- the words that differ

-- a word is compared where some digit of it can be read; where all words must be given, each word of the source is
abbrev pub is_compared : Sides → ℕ → Bool
is_compared sides address = is_given sides.claims address || (sides.whole && is_some (sides.words address))

abbrev pub lacks_at : Sides → ℕ → Bool
lacks_at sides address = option_map_or (λ word. lacks word (given_for sides address)) (sides.words address) false

-- a word differs where a known claim isn't the source's digit; where all words must be given, also where digits lack
abbrev pub differs_at : Sides → ℕ → Bool
differs_at sides address = differs sides.words sides.claims address || (sides.whole && lacks_at sides address)

-- ---- what is counted of the word at an address

abbrev pub is_absent : Sides → ℕ → Bool
is_absent sides address = is_some (sides.words address) && not (has_bytes (shown_word (given_for sides address)))

abbrev pub is_in_part : Sides → ℕ → Bool
is_in_part sides address = has_bytes (shown_word (given_for sides address)) && lacks_at sides address

abbrev pub count_known : Sides → ℕ → ℕ
count_known sides address = known_in (given_for sides address)

abbrev pub count_unknown : Sides → ℕ → ℕ
count_unknown sides address = unknown_in (given_for sides address)

abbrev pub count_denied : Sides → ℕ → ℕ
count_denied sides address = denied_in (given_for sides address)

-- what is found where the text is read as words
abbrev pub findings_of : Sides → Findings
findings_of sides = record {
  rows = sides.rows;
  known = count_known sides;
  unknown = count_unknown sides;
  denied = count_denied sides;
  is_given = is_given sides.claims;
  is_absent = is_absent sides;
  is_in_part = is_in_part sides;
  is_compared = is_compared sides;
  differs = differs_at sides;
  told = rows_at sides;
}
