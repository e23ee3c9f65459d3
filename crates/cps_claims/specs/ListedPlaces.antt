-- Where two listings differ at an address: that of a text from that of a source, digit by digit. Our own.
use Prim.Native.Char.{code}
use Rattle.std.specs.Prelude.{◌≡◌, ℕ, ◌-◌, Bool, false, true, not, ◌&&◌, ◌==◌, List, [], ◌++◌, length, map, filter, slice_get, Some, if◌then◌else◌}
use Rattle.std.specs.List.{range_with_len, count_by, list_any}
use Rattle.std.specs.Option.{option_map_or}
use Rattle.cps_claims.specs.declared.listed_digit.ListedDigit.{ListedDigit}
use Rattle.cps_claims.specs.Parts.{is_octal}

abbrev pub can_be_read : ListedDigit → Bool
can_be_read listed = is_octal listed.digit

-- whether the source lists a digit at a place
abbrev pub lists_digit : List ListedDigit → ℕ → ℕ → Bool
lists_digit deck place digit = option_map_or (λ listed. listed.digit == digit) (slice_get deck place) false

-- a digit of the text differs where it can be read and isn't the source's
abbrev pub differs_in : List ListedDigit → List ListedDigit → ℕ → Bool
differs_in deck text place =
    option_map_or (λ listed. can_be_read listed && not (lists_digit deck place listed.digit)) (slice_get text place) false

abbrev pub differing_places : List ListedDigit → List ListedDigit → List ℕ
differing_places deck text = filter (differs_in deck text) (range_with_len 0 (length text))

-- the places at which the source alone lists a digit
abbrev pub lacking_places : List ListedDigit → List ListedDigit → List ℕ
lacking_places deck text = range_with_len (length text) (length deck - length text)

-- the places of the digits that differ; where all codes must be given, also of those that lack
abbrev pub listed_places : Bool → List ListedDigit → List ListedDigit → List ℕ
listed_places whole deck text = differing_places deck text ++ (if whole then lacking_places deck text else [])

-- ---- how many

abbrev pub known_listed : List ListedDigit → ℕ
known_listed text = count_by can_be_read text

abbrev pub unknown_listed : List ListedDigit → ℕ
unknown_listed text = count_by (λ listed. not (can_be_read listed)) text

abbrev pub gives_listed : List ListedDigit → Bool
gives_listed text = list_any can_be_read text

-- ---- what is shown

-- a digit that can't be read is shown as a question mark
abbrev pub shown_listed : ListedDigit → ℕ
shown_listed listed = if can_be_read listed then listed.digit else code "?"

abbrev pub listed_text : List ListedDigit → List ℕ
listed_text listed = map shown_listed listed

-- ---- a law

-- where no place differs each digit of the text that can be read stands in the source's listing at this place
abbrev pub NoPlaceDiffersSoEachDigitIsListed : Type 0
NoPlaceDiffersSoEachDigitIsListed =
    (deck text : List ListedDigit) → length (differing_places deck text) ≡ 0
    → (place : ℕ) (listed : ListedDigit) → slice_get text place ≡ Some listed → can_be_read listed ≡ true → lists_digit deck place listed.digit ≡ true
