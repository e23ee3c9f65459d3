-- Worked rows. What each gives was worked out by hand.
use Prim.Native.Char.{code}
use Rattle.std.proofs.Common.{◌≡◌, ℕ, Bool, true, false, List, [], ◌∷◌, ◌++◌, flat_map, refl, Option, None, Some, codes}
use Rattle.std.specs.Prelude.{◌==◌, decimal, if◌then◌else◌}
use Rattle.cps_text.specs.Octal.{octal}
use Rattle.cps_expr.specs.declared.machine.Machine.TheVariants.{Cp, Pp}
use Rattle.cps_state.specs.Made.{no_flags}
use Rattle.cps_final.specs.declared.octal_digits.OctalDigits.{OctalDigits}
use Rattle.cps_final.specs.declared.row.Row.{Row}
use Rattle.cps_final.specs.Rows.{blank_row}
use Rattle.cps_claims.specs.declared.claimed_word.ClaimedDigit.{ClaimedDigit}
use Rattle.cps_claims.specs.declared.layout.WordForm.TheVariants.{Central, Peripheral}
use Rattle.cps_claims.specs.declared.reason.UnreadReason.TheVariants.{DamagedDigits}
use Rattle.cps_claims.specs.Claims.{Claimed}
use Rattle.cps_claims.specs.Counts.{places}
use Rattle.cps_claims.specs.Shown.{nothing}
use Rattle.cps_compare.specs.declared.maker.Maker.TheVariants.{Nobody, Line, Literal}
use Rattle.cps_compare.specs.Comparison.{form_of}
use Rattle.cps_compare.specs.Differences.{digits_of, differs_in, is_filled_up, lacking, places_of}
use Rattle.cps_compare.specs.Given.{Given, given_at, shown_word, again_word, known_in, unknown_in, denied_in}
use Rattle.cps_compare.specs.Statements.{texts_from}
use Rattle.cps_compare.specs.Findings.{Findings}
use Rattle.cps_compare.specs.Told.{Sides, rows_text, word_rows, caret_row, line_at, trimmed, maker_row, maker_rows, statement_rows, is_compared, differs_at, is_absent, is_in_part, findings_of}
use Rattle.cps_compare.specs.Runs.{runs_of, run_rows, more_row}
use Rattle.cps_compare.specs.Summary.{tally_row, unread_row, other_row, differing_row, count_differing}

-- ---- the words of a source

-- a central processor's word has 20 digits
central-word : digits_of Cp 8 ≡ codes "00000000000000000010"
unfolding octal
central-word = refl

-- the first 12 of the 60 bits
peripheral-word : digits_of Pp 216172782113783815 ≡ codes "1400"
unfolding octal
peripheral-word = refl

-- ---- what is given of a word

-- of the word at 64 row 2 has a 7 and a mark; row 3 a 5 for that mark, and a mark behind it; row 4 a 3 for the 7. Row 5 is of another word
abbrev said : ℕ → ℕ → ℕ → ℕ → Claimed
said row address place digit = record { row = row; address = address; place = place; digit = digit }

abbrev claims : List Claimed
claims = said 2 64 0 (code "7") ∷ said 2 64 1 (code ".") ∷ said 3 64 1 (code "5") ∷ said 3 64 2 (code "?") ∷ said 4 64 0 (code "3") ∷ said 5 65 0 (code "1") ∷ []

-- the digits of a word as they are shown, the first four
abbrev digit : ℕ → ℕ → ClaimedDigit
digit shown again = record { shown = shown; again = again }

abbrev given_of : ClaimedDigit → ClaimedDigit → ClaimedDigit → ClaimedDigit → Given
given_of a b c d place = if place == 0 then a else if place == 1 then b else if place == 2 then c else if place == 3 then d else nothing

-- the same as is given at 64
abbrev few-digits : Given
few-digits = given_of (digit (code "7") (code "3")) (digit (code "5") (code " ")) (digit (code "?") (code " ")) nothing

shown : shown_word (given_at claims 64) ≡ codes "75?"
unfolding places
shown = refl

shown-again : again_word (given_at claims 64) ≡ codes "35?"
unfolding places
shown-again = refl

known : known_in (given_at claims 64) ≡ 2
unfolding places
known = refl

unknown : unknown_in (given_at claims 64) ≡ 1
unfolding places
unknown = refl

denied : denied_in (given_at claims 64) ≡ 1
unfolding places
denied = refl

-- a digit behind one of which nothing is given
behind-gap : shown_word (given_of (digit (code "7") (code " ")) nothing (digit (code "1") (code " ")) nothing) ≡ codes "7 1"
unfolding places
behind-gap = refl

nothing-given : shown_word (given_at claims 66) ≡ []
unfolding places
nothing-given = refl

-- ---- digits that differ

same-digit : differs_in (codes "1500") few-digits 1 ≡ false
same-digit = refl

other-digit : differs_in (codes "1400") few-digits 1 ≡ true
other-digit = refl

-- a mark is no digit that differs
mark : differs_in (codes "1400") few-digits 2 ≡ false
mark = refl

-- a digit that is given twice differs, though the source has the first value
two-values : differs_in (codes "7500") few-digits 0 ≡ true
two-values = refl

-- the source's word has no such digit
no-digit : differs_in (codes "7") few-digits 1 ≡ true
no-digit = refl

-- ---- digits that lack

-- zeros to the end of a parcel, and parcels that do nothing
filled-up : is_filled_up (codes "51300460004600046000") 5 ≡ true
filled-up = refl

in-parcel : is_filled_up (codes "51300112004600046000") 8 ≡ true
in-parcel = refl

other-parcel : is_filled_up (codes "51300112004600146000") 8 ≡ false
other-parcel = refl

no-zero : is_filled_up (codes "51300112014600046000") 8 ≡ false
no-zero = refl

-- where nothing is given, nothing is filled up; nor is a peripheral word
none-filled-up : is_filled_up (codes "46000460004600046000") 0 ≡ false
none-filled-up = refl

peripheral-filled-up : is_filled_up (codes "1400") 2 ≡ false
peripheral-filled-up = refl

-- the parcel that was begun has other digits than zeros, so all behind the three that are given lack
lacks-digits : lacking (codes "51346000460004600046") few-digits ≡ 3 ∷ 4 ∷ 5 ∷ 6 ∷ 7 ∷ 8 ∷ 9 ∷ 10 ∷ 11 ∷ 12 ∷ 13 ∷ 14 ∷ 15 ∷ 16 ∷ 17 ∷ 18 ∷ 19 ∷ []
unfolding places
lacks-digits = refl

lacks-nothing : lacking (codes "51300460004600046000") few-digits ≡ []
unfolding places
lacks-nothing = refl

-- ---- the places that are told

-- the first digit has two values, the fourth isn't given
whole-places : places_of true (codes "7500") few-digits ≡ 0 ∷ 3 ∷ []
unfolding places
whole-places = refl

given-places : places_of false (codes "7400") few-digits ≡ 0 ∷ 1 ∷ []
unfolding places
given-places = refl

-- ---- statements of an expansion

abbrev row_with : Bool → List ℕ → Option OctalDigits → ℕ → Row
row_with is_later text code location = record (blank_row no_flags) { is_later = is_later; text = text; code = code; location = Some location }

-- a source line's own statement has no text, in later rows too
own-statement : (code : OctalDigits) → texts_from 64 [] (row_with false [] (Some code) 64 ∷ row_with true [] (Some code) 64 ∷ []) ≡ []
own-statement code = refl

-- a later row goes on with the statement above it, of which the first row shows its code elsewhere
later-row : (code : OctalDigits)
    → texts_from 64 [] (row_with false (codes "SA1") None 64 ∷ row_with false (codes "SA2") (Some code) 63 ∷ row_with true [] (Some code) 64 ∷ []) ≡ codes "SA2" ∷ []
later-row code = refl

other-address : (code : OctalDigits) → texts_from 64 [] (row_with false (codes "SA1") (Some code) 65 ∷ []) ≡ []
other-address code = refl

same-statement : statement_rows [] (codes "A" ∷ codes "A" ∷ codes " B" ∷ []) ≡ codes "       + A\n       + B\n"
same-statement = refl

-- ---- the rows of a word

one-row : rows_text (record { first = 3; last = 3; again = 4 }) ≡ codes "  row " ++ decimal 3
one-row = refl

more-rows : rows_text (record { first = 2; last = 5; again = 0 }) ≡ codes "  rows " ++ decimal 2 ++ codes " to " ++ decimal 5
more-rows = refl

no-word : word_rows 64 None few-digits (record { first = 2; last = 3; again = 4 })
    ≡ codes "000100 deck  (no word)\n       octal 75?" ++ (codes "  rows " ++ decimal 2 ++ codes " to " ++ decimal 3) ++ codes "\n" ++ (codes "       again 35?  row " ++ decimal 4 ++ codes "\n")
unfolding octal places
no-word = refl

no-digits : word_rows 64 (Some (codes "1400")) (λ place. nothing) (record { first = 0; last = 0; again = 0 }) ≡ codes "000100 deck  1400\n       octal (no digits)\n"
unfolding octal places
no-digits = refl

carets : caret_row (0 ∷ 3 ∷ []) ≡ codes "             ^  ^\n"
carets = refl

-- ---- the lines

trimmed-line : trimmed (line_at (codes "A" ∷ codes "   BX6" ∷ []) 2) ≡ codes "BX6"
trimmed-line = refl

no-line : line_at (codes "A" ∷ []) 0 ≡ []
no-line = refl

-- a literal behind digits that nobody made, and once more
literals : (statements : ℕ → List (List ℕ)) → maker_rows [] statements Nobody (Nobody ∷ Literal ∷ Literal ∷ []) ≡ codes "       a literal\n"
literals statements = refl

-- the same line behind another one is told again
lines-again : (lines : List (List ℕ)) (statements : ℕ → List (List ℕ)) → maker_rows lines statements Nobody (Line 1 ∷ Literal ∷ Line 1 ∷ [])
    ≡ maker_row lines statements (Line 1) ++ (codes "       a literal\n" ++ (maker_row lines statements (Line 1) ++ []))
lines-again lines statements = refl

-- ---- words that differ, of a source that has 1400 at 63, 64 and 65

abbrev sides_of : Bool → List Claimed → Sides
sides_of whole claims = record {
  rows = [];
  claims = claims;
  words = λ address. if address == 63 then Some (codes "1400") else if address == 64 then Some (codes "1400") else if address == 65 then Some (codes "1400") else None;
  maker = λ address digit. Literal;
  lines = [];
  statements = λ number address. [];
  whole = whole;
}

-- 7 is claimed at 64, 1 at 65, and a mark at 66
abbrev few : List Claimed
few = said 1 64 0 (code "7") ∷ said 1 65 0 (code "1") ∷ said 2 66 0 (code "?") ∷ []

first-digit-differs : differs_at (sides_of false few) 64 ≡ true
first-digit-differs = refl

first-digit-agrees : differs_at (sides_of false few) 65 ≡ false
first-digit-agrees = refl

-- where all words must be given, a word of which digits lack differs
digits-lack : differs_at (sides_of true few) 65 ≡ true
unfolding places
digits-lack = refl

-- a word with nothing but a mark isn't compared
mark-alone : is_compared (sides_of true few) 66 ≡ false
mark-alone = refl

not-given : is_compared (sides_of false few) 63 ≡ false
not-given = refl

must-be-given : is_compared (sides_of true few) 63 ≡ true
must-be-given = refl

absent : is_absent (sides_of false few) 63 ≡ true
unfolding places
absent = refl

in-part : is_in_part (sides_of false few) 65 ≡ true
unfolding places
in-part = refl

-- the word at 65 agrees, so it ends a run; words that are compared one after another make one, wherever they stand
two-runs : runs_of (findings_of (sides_of false (said 1 70 0 (code "2") ∷ said 1 72 0 (code "0") ∷ few))) (64 ∷ 65 ∷ 70 ∷ 72 ∷ []) ≡ (64 ∷ []) ∷ (70 ∷ 72 ∷ []) ∷ []
two-runs = refl

differing : count_differing (findings_of (sides_of false few)) 63 66 ≡ 1
differing = refl

-- of five words each is told, of six four
five-words : (found : Findings) → run_rows found false (1 ∷ 2 ∷ 3 ∷ 4 ∷ 5 ∷ []) ≡ flat_map found.told (1 ∷ 2 ∷ 3 ∷ 4 ∷ 5 ∷ [])
five-words found = refl

six-words : (found : Findings) → run_rows found false (1 ∷ 2 ∷ 3 ∷ 4 ∷ 7 ∷ 8 ∷ []) ≡ flat_map found.told (1 ∷ 2 ∷ 3 ∷ 4 ∷ []) ++ more_row 7 8 2
six-words found = refl

all-words : (found : Findings) → run_rows found true (1 ∷ 2 ∷ 3 ∷ 4 ∷ 7 ∷ 8 ∷ []) ≡ flat_map found.told (1 ∷ 2 ∷ 3 ∷ 4 ∷ 7 ∷ 8 ∷ [])
all-words found = refl

more : more_row 64 65 2 ≡ codes "000100 to 000101: " ++ decimal 2 ++ codes " more words differ\n"
unfolding octal
more = refl

-- ---- how much was compared

tally-none : tally_row (codes "twice: ") (codes " digits") (λ address. 0) (64 ∷ 65 ∷ []) ≡ []
tally-none = refl

-- two at 65, and one at 66
tally-some : tally_row (codes "twice: ") (codes " digits") (λ address. if address == 65 then 2 else if address == 66 then 1 else 0) (64 ∷ 65 ∷ 66 ∷ [])
    ≡ codes "twice: " ++ decimal 3 ++ codes " digits" ++ codes ", first at " ++ codes "000101" ++ codes "\n"
unfolding octal
tally-some = refl

unread-none : unread_row 0 None ≡ []
unread-none = refl

unread-some : unread_row 2 (Some (record { number = 4; reason = DamagedDigits }))
    ≡ codes "not read: " ++ decimal 2 ++ codes " rows, first row " ++ decimal 4 ++ codes ": " ++ codes "damaged digits" ++ codes "\n"
unread-some = refl

other-none : other_row 0 None ≡ []
other-none = refl

other-some : other_row 3 (Some 1) ≡ codes "other text: " ++ decimal 3 ++ codes " rows, first row " ++ decimal 1 ++ codes "\n"
other-some = refl

differing-words : differing_row 1 2 64 65 ≡ decimal 1 ++ codes " of " ++ decimal 2 ++ codes " words differ (" ++ codes "000100" ++ codes " to " ++ codes "000101" ++ codes ")\n"
unfolding octal
differing-words = refl

-- ---- the words of a machine

central : form_of Cp ≡ Central
central = refl

peripheral : form_of Pp ≡ Peripheral
peripheral = refl
