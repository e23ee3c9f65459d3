-- The header of a message. From the base protocol of the Language Server Protocol 3.17: header fields as HTTP has them, of which one tells how many bytes the message has. The two limits are our own.
use Rattle.std.specs.Prelude.{◌≡◌, ℕ, ◌≤◌, ◌&&◌, Bool, List, [], ◌∷◌, length, map, All, codes, nat_lt, nat_le, bytes_eq, Option, Some, None, if◌then◌else◌}
use Rattle.std.specs.List.{list_all}
use Rattle.std.specs.Char.{is_ascii_digit, to_ascii_lowercase}
use Rattle.std.specs.Str.Parse.{digits_value}
use Rattle.httparse.specs.Grammar.{Field, IsField}
use Rattle.httparse.specs.Spans.{name_and_value}

-- the most fields of a header
abbrev pub most_fields : ℕ
most_fields = 8

-- the most digits of a length
abbrev pub most_digits : ℕ
most_digits = 9

-- bytes are decimal digits, some and not too many
abbrev pub is_length : List ℕ → Bool
is_length bytes = (nat_lt 0 (length bytes) && nat_le (length bytes) most_digits) && list_all is_ascii_digit bytes

-- the length that bytes write, if they write one
abbrev pub length_in : List ℕ → Option ℕ
length_in bytes = if is_length bytes then Some (digits_value 10 bytes) else None

-- the name of the field that tells the length, in capitals or not
abbrev pub is_length_name : List ℕ → Bool
is_length_name name = bytes_eq (map to_ascii_lowercase name) (codes "content-length")

-- the length that fields tell, by their names and values: the first of that name counts
abbrev pub length_told : List (List ℕ × List ℕ) → Option ℕ
length_told [] = None
length_told (field ∷ fields) = if is_length_name field.0 then length_in field.1 else length_told fields

-- the fields are the header of a message
pub record IsHeader (fields : List Field) (message : List ℕ) : Type 0 where
  pub valid : All IsField fields
  pub few : length fields ≤ most_fields
  pub told : length_told (map name_and_value fields) ≡ Some (length message)
