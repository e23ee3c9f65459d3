-- Positions, worked by hand.
use Rattle.std.specs.Prelude.{◌≡◌, ℕ, List, [], ◌∷◌, ◌++◌, codes, refl}
use Rattle.cps_rpc.specs.declared.encoding.Encoding.TheVariants.{Utf8, Utf16}
use Rattle.cps_rpc.specs.declared.position.Position.{Position}
use Rattle.cps_rpc.specs.Positions.{line_of, place_in, place_of, units_before}

-- ---- places in a line

ascii : place_in Utf8 (codes "ABC") 2 ≡ 2
ascii = refl

ascii_16 : place_in Utf16 (codes "ABC") 2 ≡ 2
ascii_16 = refl

behind_ascii : place_in Utf8 (codes "ABC") 5 ≡ 3
behind_ascii = refl

-- A, a letter of two bytes (U+00E9), B
abbrev two_bytes : List ℕ
two_bytes = codes "A" ++ 0xC3 ∷ 0xA9 ∷ codes "B"

in_two : place_in Utf8 two_bytes 2 ≡ 1
in_two = refl

after_two : place_in Utf8 two_bytes 3 ≡ 3
after_two = refl

after_two_16 : place_in Utf16 two_bytes 2 ≡ 3
after_two_16 = refl

behind_two_16 : place_in Utf16 two_bytes 3 ≡ 4
behind_two_16 = refl

-- A, a sign of three bytes (U+20AC), B
abbrev three_bytes : List ℕ
three_bytes = codes "A" ++ 0xE2 ∷ 0x82 ∷ 0xAC ∷ codes "B"

in_three : place_in Utf8 three_bytes 3 ≡ 1
in_three = refl

after_three : place_in Utf8 three_bytes 4 ≡ 4
after_three = refl

after_three_16 : place_in Utf16 three_bytes 2 ≡ 4
after_three_16 = refl

-- A, a sign of four bytes (U+1F600), which UTF-16 has as a surrogate pair, B
abbrev four_bytes : List ℕ
four_bytes = codes "A" ++ 0xF0 ∷ 0x9F ∷ 0x98 ∷ 0x80 ∷ codes "B"

in_four : place_in Utf8 four_bytes 4 ≡ 1
in_four = refl

after_four : place_in Utf8 four_bytes 5 ≡ 5
after_four = refl

before_pair : place_in Utf16 four_bytes 1 ≡ 1
before_pair = refl

in_pair : place_in Utf16 four_bytes 2 ≡ 1
in_pair = refl

after_pair : place_in Utf16 four_bytes 3 ≡ 5
after_pair = refl

behind_pair : place_in Utf16 four_bytes 4 ≡ 6
behind_pair = refl

-- ---- units before a place

two_units : units_before Utf8 two_bytes 3 ≡ 3
two_units = refl

two_units_16 : units_before Utf16 two_bytes 3 ≡ 2
two_units_16 = refl

three_units_16 : units_before Utf16 three_bytes 4 ≡ 2
three_units_16 = refl

four_units : units_before Utf8 four_bytes 5 ≡ 5
four_units = refl

four_units_16 : units_before Utf16 four_bytes 5 ≡ 3
four_units_16 = refl

-- ---- places in a text

-- the text "AB\r\nC\r"
abbrev lines : List (List ℕ)
lines = codes "AB\r" ∷ codes "C\r" ∷ []

abbrev at : ℕ → ℕ → Position
at line character = record { line = line; character = character }

on_first : place_of Utf8 lines (at 0 1) ≡ 1
on_first = refl

before_return : place_of Utf8 lines (at 0 2) ≡ 2
before_return = refl

behind_line : place_of Utf8 lines (at 0 9) ≡ 2
behind_line = refl

on_second : place_of Utf16 lines (at 1 0) ≡ 4
on_second = refl

behind_last_line : place_of Utf16 lines (at 1 9) ≡ 5
behind_last_line = refl

behind_text : place_of Utf16 lines (at 2 0) ≡ 6
behind_text = refl

far_behind_text : place_of Utf8 lines (at 7 3) ≡ 6
far_behind_text = refl

in_no_text : place_of Utf8 ([] ∷ []) (at 3 3) ≡ 0
in_no_text = refl

line_behind_text : line_of lines (at 7 3) ≡ 1
line_behind_text = refl
