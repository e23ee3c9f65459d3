-- What an editor shows of a line: its rows of the listing, and beside it the address and the code. The limit is our own.
use Rattle.std.specs.Prelude.{◌≡◌, ℕ, ◌+◌, Bool, false, ◌||◌, nat_lt, List, [], ◌∷◌, ◌++◌, length, take, codes, Option, Some, None, slice_get, is_some, unwrap_or, option_and_then, option_map, if◌then◌else◌}
use Rattle.std.specs.Option.{option_map_or}
use Rattle.cps_state.specs.Flags.{has_flag}
use Rattle.cps_final.specs.Outcome.{flags_of, Outcome}
use Rattle.cps_final.specs.declared.octal_digits.OctalDigits.{OctalDigits}
use Rattle.cps_final.specs.declared.row.Row.{Row}
use Rattle.cps_list.specs.Assembly.{Assembly}
use Rattle.cps_list.specs.Listing.{address_text, code_text, line_rows, second_text}
use Rattle.cps_edit.specs.Assembly.{assembly_of, outcomes_of}
use Rattle.cps_rpc.specs.declared.encoding.Encoding.{Encoding}
use Rattle.cps_rpc.specs.declared.position.Position.{Position}
use Rattle.cps_server.specs.Document.{source_of_text}
use Rattle.cps_server.specs.Symbols.{row_at}

-- ---- the rows of a line

-- the most rows of a line that are shown
abbrev pub most_rows : ℕ
most_rows = 40

-- the first rows of a line of a number, as the listing has them, and `..` in place of more
abbrev pub more_rows : ℕ → List ℕ
more_rows count = if nat_lt most_rows count then codes "..\n" else []

abbrev pub first_rows : ℕ → List ℕ → List Row → List ℕ
first_rows number line rows = line_rows number line (take most_rows rows) ++ more_rows (length rows)

-- those of a line of a source, from 0
abbrev pub rows_in : Assembly → ℕ → Option (List ℕ)
rows_in assembly number =
    option_and_then (λ line. option_map (λ (outcome : Outcome). first_rows (number + 1) line outcome.rows) (slice_get assembly.outcomes number))
    (slice_get assembly.lines number)

-- those of a line of a text; none where no such line is assembled
abbrev pub shown_rows : List ℕ → ℕ → List ℕ
shown_rows text number = unwrap_or (rows_in (assembly_of (source_of_text text)) number) []

-- whether a line of a text has a flag, from 0
abbrev pub is_flagged : List ℕ → ℕ → Bool
is_flagged text number =
    option_map_or (λ (outcome : Outcome). has_flag (flags_of outcome.rows)) (slice_get (assembly_of (source_of_text text)).outcomes number) false

-- why a line of a text has its flags, which is nothing where it has none; the words are free
abbrev pub IsWhy : List ℕ → ℕ → List ℕ → Type 0
IsWhy text number why = is_flagged text number ≡ false → why ≡ []

-- What is shown of a line of a text behind other rows: its own, and why it is flagged. None: no such line is assembled.
abbrev pub ShowsBehind : List ℕ → ℕ → List ℕ → Option (List ℕ) → Type 0
ShowsBehind text number front shown =
    (why : List ℕ) × IsWhy text number why
    × (shown ≡ option_map (λ rows. (front ++ rows) ++ why) (rows_in (assembly_of (source_of_text text)) number))

-- what is shown at a position: the row of the symbol that the word there writes, and what its line shows
abbrev pub Shows : Encoding → List ℕ → Position → Option (List ℕ) → Type 0
Shows encoding text position shown = ShowsBehind text position.line (row_at encoding text position) shown

-- ---- the listing of a line

-- all rows of a line of a text, from 0, as the listing has them; none where no such line is assembled
abbrev pub rows_of : ℕ → Option (List ℕ) → Option Outcome → List ℕ
rows_of number None outcome = []
rows_of number (Some line) None = []
rows_of number (Some line) (Some outcome) = line_rows (number + 1) line outcome.rows

abbrev pub line_listing : List ℕ → ℕ → List ℕ
line_listing text number = rows_of number (slice_get (source_of_text text) number) (slice_get (outcomes_of (source_of_text text)) number)

-- ---- beside a line

-- an address and a code, with a blank between them
abbrev pub address_and_code : Option ℕ → Option OctalDigits → List ℕ
address_and_code None code = code_text code
address_and_code (Some address) None = address_text (Some address)
address_and_code (Some address) (Some digits) = address_text (Some address) ++ (codes " " ++ code_text (Some digits))

-- those of a row
abbrev pub row_code : Row → List ℕ
row_code row = address_and_code row.location row.code ++ second_text row.second

-- what stands in place of further rows
abbrev pub more_text : List Row → List ℕ
more_text [] = []
more_text (row ∷ rows) = codes " .."

-- whether a row has an address or a code
abbrev pub has_code : Row → Bool
has_code row = is_some row.location || is_some row.code

-- what is shown beside a line with these rows: of the first that has an address or a code, as the first row of a call where its own has none
abbrev pub hint_of : List Row → Option (List ℕ)
hint_of [] = None
hint_of (row ∷ more) = if has_code row then Some (row_code row ++ more_text more) else hint_of more
