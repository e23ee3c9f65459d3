-- Cards: what the lines of any text stand for. Our own.
use Prim.Native.Char.{code}
use Rattle.std.specs.Prelude.{ℕ, List, map, take, if◌then◌else◌}
use Rattle.cps_text.specs.declared.limits.TheConstants.{MOST_LINES}
use Rattle.cps_text.specs.Line.{is_accepted_byte, longest_line}

-- a byte that no line may have leaves its column blank
abbrev pub column_of : ℕ → ℕ
column_of byte = if is_accepted_byte byte then byte else code " "

-- the card of a line: its first 90 bytes, with such blanks
abbrev pub card_of : List ℕ → List ℕ
card_of line = take longest_line (map column_of line)

-- the cards of lines: of so many as a source has at most
abbrev pub cards_of : List (List ℕ) → List (List ℕ)
cards_of lines = map card_of (take MOST_LINES lines)
