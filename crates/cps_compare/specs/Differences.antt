-- Which words of a source differ from an octal text, and in which digits. Our own.
use Prim.Native.Char.{code}
use Rattle.std.specs.Prelude.{ℕ, ◌+◌, ◌-◌, ◌/◌, ◌%◌, ◌^◌, Bool, false, not, ◌&&◌, ◌||◌, ◌==◌, nat_lt, List, [], ◌++◌, length, filter, take, drop, codes, bytes_eq, slice_get, Option, None, option_map, if◌then◌else◌}
use Rattle.std.specs.List.{list_all, range_with_len}
use Rattle.std.specs.Option.{option_map_or}
use Rattle.cps_text.specs.Octal.{octal}
use Rattle.cps_expr.specs.declared.machine.Machine.{Machine}
use Rattle.cps_expr.specs.declared.machine.Machine.TheVariants.{Cp, Pp}
use Rattle.cps_code.specs.Image.{Piece, packed_word}
use Rattle.cps_state.specs.Machines.{limit}
use Rattle.cps_final.specs.Finals.{machine_of}
use Rattle.cps_list.specs.Assembly.{Assembly}
use Rattle.cps_list.specs.Binary.{pieces_of}
use Rattle.cps_claims.specs.Parts.{is_octal}
use Rattle.cps_claims.specs.Claims.{Words}
use Rattle.cps_claims.specs.Counts.{places}
use Rattle.cps_claims.specs.Shown.{is_denied}
use Rattle.cps_compare.specs.Given.{Given, shown_word}

-- ---- the words of a source, as the binary text has them

-- a peripheral processor's word is the first 12 of the 60 bits
abbrev pub digits_of : Machine → ℕ → List ℕ
digits_of Cp word = octal 20 word
digits_of Pp word = octal 4 (word / 2 ^ 48)

-- the word at an address; none stands past the machine's limit
abbrev pub word_of : Machine → List Piece → ℕ → Option ℕ
word_of machine pieces address = if nat_lt address (limit machine) then packed_word pieces address else None

abbrev pub digits_in : Machine → List Piece → Words
digits_in machine pieces address = option_map (digits_of machine) (word_of machine pieces address)

abbrev pub deck_of : Assembly → Words
deck_of assembly = digits_in (machine_of assembly.finals) (pieces_of assembly)

-- ---- digits that differ

-- whether a word has a digit at a place
abbrev pub has_digit : List ℕ → ℕ → ℕ → Bool
has_digit word place digit = option_map_or (λ other. other == digit) (slice_get word place) false

-- a digit differs where it can be read and isn't the source's, or where a later row has another
abbrev pub differs_in : List ℕ → Given → ℕ → Bool
differs_in word given place =
    is_octal (given place).shown && (is_denied (given place) || not (has_digit word place (given place).shown))

-- ---- digits that lack

-- Whether a word is filled up behind its first digits: by zeros to the end of a parcel, and then by parcels that do nothing. A word of which
-- nothing is given isn't, nor is that of a peripheral processor.
abbrev pub is_filled_up : List ℕ → ℕ → Bool
is_filled_up word count =
    let border = count + (20 - count) % 5 in
    (length word == 20)
    && (nat_lt 0 count
    && (list_all (λ digit. digit == code "0") (take (border - count) (drop count word))
    && bytes_eq (drop border word) (drop border (codes "46000460004600046000"))))

-- the places of a word behind the digits that are given, but for filling
abbrev pub lacking : List ℕ → Given → List ℕ
lacking word given =
    let count = length (shown_word given) in
    if is_filled_up word count then [] else range_with_len count (length word - count)

-- whether a word isn't given, or in part
abbrev pub lacks : List ℕ → Given → Bool
lacks word given = nat_lt 0 (length (lacking word given))

-- the places of the digits that differ; where all words must be given, also of those that lack
abbrev pub places_of : Bool → List ℕ → Given → List ℕ
places_of whole word given = filter (differs_in word given) places ++ (if whole then lacking word given else [])
