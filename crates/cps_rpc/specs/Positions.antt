-- Positions in a text. From the Language Server Protocol 3.17; what a position tells that stands nowhere is our own.
use Rattle.std.specs.Prelude.{ℕ, zero, suc, min, ◌+◌, ◌-◌, Bool, ◌&&◌, nat_lt, nat_le, List, [], ◌∷◌, length, take, if◌then◌else◌}
use Rattle.std.specs.List.{sum_by}
use Rattle.cps_input.specs.Lines.{without_return}
use Rattle.cps_rpc.specs.declared.encoding.Encoding.{Encoding}
use Rattle.cps_rpc.specs.declared.encoding.Encoding.TheVariants.{Utf8, Utf16}
use Rattle.cps_rpc.specs.declared.position.Position.{Position}

-- ---- characters

-- a byte goes on with the character of the byte before it
abbrev pub is_continuation : ℕ → Bool
is_continuation byte = nat_le 128 byte && nat_lt byte 192

-- so many bytes has a character that begins with a byte
abbrev pub bytes_begun : ℕ → ℕ
bytes_begun byte =
    if is_continuation byte then 0 else (if nat_lt byte 192 then 1 else (if nat_lt byte 224 then 2 else (if nat_lt byte 240 then 3 else 4)))

-- so many units has a character that begins with a byte; a byte that goes on has none
abbrev pub units : Encoding → ℕ → ℕ
units Utf8 byte = bytes_begun byte
units Utf16 byte = if is_continuation byte then 0 else (if nat_lt byte 240 then 1 else 2)

-- the units of the characters that begin before a place in a line
abbrev pub units_before : Encoding → List ℕ → ℕ → ℕ
units_before encoding line place = sum_by (units encoding) (take place line)

-- The place in a line before which so many units stand: the last such place between two characters, and the end of a line that has fewer.
abbrev pub place_in : Encoding → List ℕ → ℕ → ℕ
place_in encoding [] left = 0
place_in encoding (byte ∷ bytes) left =
    if nat_lt left (units encoding byte) then 0 else suc (place_in encoding bytes (left - units encoding byte))

-- ---- lines

-- the place of a line and so many units in a text of these lines; behind the last line it is the text's end
abbrev pub place_among : Encoding → List (List ℕ) → ℕ → ℕ → ℕ
place_among encoding [] number left = 0
place_among encoding (line ∷ lines) zero left = place_in encoding (without_return line) left
place_among encoding (line ∷ []) (suc number) left = length line
place_among encoding (line ∷ next ∷ lines) (suc number) left = length line + 1 + place_among encoding (next ∷ lines) number left

-- the place of a position
abbrev pub place_of : Encoding → List (List ℕ) → Position → ℕ
place_of encoding lines position = place_among encoding lines position.line position.character

-- the line on which a position stands
abbrev pub line_of : List (List ℕ) → Position → ℕ
line_of lines position = min position.line (length lines - 1)
