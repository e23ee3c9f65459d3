-- The words that tell what is wrong in a line. Our own.
use Prim.Native.Char.{code}
use Rattle.std.specs.Prelude.{ℕ, ◌==◌, nat_lt, List, ◌++◌, length, codes, if◌then◌else◌}
use Rattle.std.specs.Char.{encode_utf8}
use Rattle.std.specs.Fmt.{decimal}
use Rattle.std.specs.List.{list_all}
use Rattle.cps_input.specs.declared.character_fault.Misfit.{Misfit}
use Rattle.cps_input.specs.declared.character_fault.Misfit.TheVariants.{Character, Byte, ByteOrderMark, Excess, More}
use Rattle.cps_input.specs.Hex.{hex}
use Rattle.cps_input.specs.Shown.{is_control, is_obeyed}

-- the code of a character, as Unicode writes it: in four digits, or in as many as it takes
abbrev pub code_digits : ℕ → ℕ
code_digits c = if nat_lt c 0x10000 then 4 else (if nat_lt c 0x100000 then 5 else 6)

abbrev pub code_text : ℕ → List ℕ
code_text c = codes "U+" ++ hex (code_digits c) c

abbrev pub quoted : ℕ → List ℕ
quoted c = codes "'" ++ encode_utf8 c ++ codes "'"

abbrev pub byte_text : ℕ → List ℕ
byte_text byte = codes "byte " ++ hex 2 byte

-- how a character beyond ASCII is named; one that a terminal obeys, by its code alone
abbrev pub wide_text : ℕ → List ℕ
wide_text c = if is_obeyed c then code_text c else quoted c ++ codes " (" ++ code_text c ++ codes ")"

-- how a character is named that is neither a tab nor a carriage return
abbrev pub character_text : ℕ → List ℕ
character_text c = if is_control c then byte_text c else (if nat_lt c 0x80 then quoted c else wide_text c)

abbrev pub is_none : List ℕ
is_none = codes " is no character of a line"

abbrev pub character_words : ℕ → List ℕ
character_words c =
    if c == code "\t" then codes "a tab is no character of a line; blanks to column 11, 18 or 30?"
    else (if c == code "\r" then codes "a carriage return is no character of a line" else character_text c ++ is_none)

abbrev pub stray_words : ℕ → List ℕ
stray_words byte = byte_text byte ++ is_none ++ codes ", and no UTF-8"

-- the bytes of a line count as characters where it is ASCII
abbrev pub unit_of : List ℕ → List ℕ
unit_of line = if list_all (λ byte. nat_lt byte 0x80) line then codes " characters" else codes " bytes"

-- the words for a fault of a line
abbrev pub words_of : List ℕ → Misfit → List ℕ
words_of line (Character c) = character_words c
words_of line (Byte byte) = stray_words byte
words_of line ByteOrderMark = codes "the file begins with a byte order mark"
words_of line Excess = codes "the line has " ++ decimal (length line) ++ unit_of line ++ codes ", and 90 are the most"
words_of line (More count) = codes "and " ++ decimal count ++ codes " more in this line"
