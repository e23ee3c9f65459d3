-- This program's own listing beside the one that the program writes of a source: what is found at each address. The literal pool, which has no rows,
-- isn't compared. The layout is our own.
use Rattle.std.specs.Prelude.{ℕ, ◌+◌, ◌-◌, ◌%◌, ◌^◌, Bool, not, ◌&&◌, ◌||◌, nat_lt, List, [], ◌∷◌, ◌++◌, length, map, flat_map, codes, slice_get, Some, if◌then◌else◌}
use Rattle.std.specs.Option.{option_map_or}
use Rattle.cps_text.specs.Octal.{octal}
use Rattle.cps_final.specs.declared.row.Row as final
use Rattle.cps_final.specs.Outcome.{Outcome}
use Rattle.cps_list.specs.Listing.{code_text}
use Rattle.cps_claims.specs.declared.listed_digit.ListedDigit.{ListedDigit}
use Rattle.cps_claims.specs.Rows.{Row}
use Rattle.cps_claims.specs.Listed.{ListedCode}
use Rattle.cps_claims.specs.ListedPlaces.{listed_places, listed_text, known_listed, unknown_listed, gives_listed}
use Rattle.cps_compare.specs.declared.maker.Maker.{Maker}
use Rattle.cps_compare.specs.declared.maker.Maker.TheVariants.{Nobody, Line}
use Rattle.cps_compare.specs.Findings.{Findings}
use Rattle.cps_compare.specs.Told.{GivenRows, rows_text, caret_row, made_rows}

-- ---- the listing of a source

-- the code of a row with an address, of which six octal digits stand in the listing
abbrev pub row_codes : ℕ → final.Row → List ListedCode
row_codes number row =
    option_map_or
    (λ at.
    option_map_or
    (λ code. record { by = number; address = at % 2 ^ 18; digits = code_text (Some code) ++ code_text row.second } ∷ [])
    row.code
    [])
    row.location
    []

-- the codes of lines that have numbers from one on
abbrev pub line_codes : ℕ → List Outcome → List ListedCode
line_codes number [] = []
line_codes number (outcome ∷ outcomes) = flat_map (row_codes number) outcome.rows ++ line_codes (number + 1) outcomes

-- ---- both listings

pub record ListedSides : Type 0 where
  -- of the text: what each of its rows is, and the digits at each address
  pub rows : List Row
  pub text : ℕ → List ListedDigit
  -- of the source: the digits at each address; its lines; and the statements of expansions, by line and address
  pub deck : ℕ → List ListedDigit
  pub lines : List (List ℕ)
  pub statements : ℕ → ℕ → List (List ℕ)
  -- whether all codes must be given
  pub whole : Bool

abbrev pub is_listed : List ListedDigit → Bool
is_listed listed = nat_lt 0 (length listed)

abbrev pub places_at : ListedSides → ℕ → List ℕ
places_at sides address = listed_places sides.whole (sides.deck address) (sides.text address)

-- ---- what is told

abbrev pub deck_told : List ListedDigit → List ℕ
deck_told deck = if is_listed deck then listed_text deck else codes "(no code)"

abbrev pub by_at : List ListedDigit → ℕ → ℕ
by_at listed place = option_map_or (λ (listed : ListedDigit). listed.by) (slice_get listed place) 0

abbrev pub listing_rows : List ListedDigit → GivenRows
listing_rows text = record { first = by_at text 0; last = by_at text (length text - 1); again = 0 }

abbrev pub text_told : List ListedDigit → List ℕ
text_told text = if is_listed text then listed_text text ++ rows_text (listing_rows text) else codes "(no digits)"

-- the codes at an address
abbrev pub code_rows : ℕ → List ListedDigit → List ListedDigit → List ℕ
code_rows address deck text =
    octal 6 address ++ codes " deck  " ++ deck_told deck ++ codes "\n       octal " ++ text_told text ++ codes "\n"

-- the line that lists a digit
abbrev pub line_of : List ListedDigit → ℕ → Maker
line_of deck place = option_map_or (λ (listed : ListedDigit). Line listed.by) (slice_get deck place) Nobody

-- carets, where digits are given, and the lines that list those that differ
abbrev pub place_rows : ListedSides → ℕ → List ℕ
place_rows sides address =
    (if is_listed (sides.text address) then caret_row (places_at sides address) else [])
    ++ made_rows sides.lines (λ number. sides.statements number address) (line_of (sides.deck address)) (places_at sides address)

abbrev pub listed_rows : ListedSides → ℕ → List ℕ
listed_rows sides address =
    code_rows address (sides.deck address) (sides.text address) ++ (if is_listed (sides.deck address) then place_rows sides address else [])

-- ---- what is found

-- no digit of a listing stands twice
abbrev pub listed_findings : ListedSides → Findings
listed_findings sides = record {
  rows = sides.rows;
  known = λ address. known_listed (sides.text address);
  unknown = λ address. unknown_listed (sides.text address);
  denied = λ address. 0;
  is_given = λ address. gives_listed (sides.text address);
  is_absent = λ address. is_listed (sides.deck address) && not (is_listed (sides.text address));
  is_in_part = λ address. is_listed (sides.text address) && nat_lt (length (sides.text address)) (length (sides.deck address));
  is_compared = λ address. gives_listed (sides.text address) || (sides.whole && is_listed (sides.deck address));
  differs = λ address. nat_lt 0 (length (places_at sides address));
  told = listed_rows sides;
}
