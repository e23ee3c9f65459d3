-- The operands of a statement. From the manual's sections on the statement format and on literals.
use Rattle.std.specs.Prelude.{ℕ, ◌+◌, List, [], ◌∷◌, drop, codes, if◌then◌else◌}
use Rattle.std.specs.List.{position_or_len}
use Rattle.cps_text.specs.DataItem.{cp_characters}
use Rattle.cps_text.specs.ItemInFront.{item_len}
use Rattle.cps_text.specs.Parts.{ends_part, parts_of}
use Rattle.cps_text.specs.Text.{among}

-- commas and blanks of a data item behind the `=` that begins an operand don't count; it is one by the central processor's limit in every program
abbrev pub literal_len : List ℕ → ℕ
literal_len [] = 0
literal_len (character ∷ text) = if among (codes "=") character then item_len cp_characters text + 1 else 0

-- an operand ends before the next comma or blank
abbrev pub operand_len : List ℕ → ℕ
operand_len text = literal_len text + position_or_len ends_part (drop (literal_len text) text)

-- the operands of a tail
abbrev pub operands_of : List ℕ → List (List ℕ)
operands_of tail = parts_of operand_len tail
