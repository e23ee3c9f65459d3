-- What a terminal is shown of a line, so that it obeys nothing that stands there. Our own.
use Prim.Native.Char.{code}
use Rattle.std.specs.Prelude.{ℕ, Bool, ◌||◌, ◌&&◌, ◌==◌, not, nat_le, nat_lt, List, length, codes, flat_map, if◌then◌else◌}
use Rattle.std.specs.Char.{encode_utf8}
use Rattle.std.specs.List.{list_all}
use Rattle.std.specs.Option.{option_map_or}
use Rattle.bstr.specs.Utf8.{Decoded, pieces}

-- a control character of ASCII
abbrev pub is_control : ℕ → Bool
is_control c = nat_lt c (code " ") || c == 0x7F

abbrev pub is_between : ℕ → ℕ → ℕ → Bool
is_between first last c = nat_le first c && nat_le c last

-- characters that a terminal obeys, that turn a text round, or that show nothing
abbrev pub is_obeyed : ℕ → Bool
is_obeyed c =
    is_control c || is_between 0x80 0x9F c || is_between 0x200B 0x200F c || is_between 0x2028 0x202E c || is_between 0x2060 0x2069 c || c == 0xFEFF

-- a tab is shown as a blank, and another such character as `?`
abbrev pub shown_character : ℕ → List ℕ
shown_character c = if c == code "\t" then codes " " else (if is_obeyed c then codes "?" else encode_utf8 c)

-- bytes that are no UTF-8 are shown as `?`
abbrev pub shown_piece : Decoded → List ℕ
shown_piece piece = option_map_or shown_character piece.char (codes "?")

-- what is shown of a line
abbrev pub shown : List ℕ → List ℕ
shown line = flat_map shown_piece (pieces line)

-- how many characters are shown
abbrev pub shown_width : List ℕ → ℕ
shown_width line = length (pieces line)

-- none of some bytes is a control character of ASCII
abbrev pub has_no_control : List ℕ → Bool
has_no_control text = list_all (λ byte. not (is_control byte)) text
