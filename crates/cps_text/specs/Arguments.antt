-- The arguments of a macro's call. From the manual's section on macro calls.
use Rattle.std.specs.Prelude.{ℕ, ◌+◌, ◌-◌, Bool, ◌&&◌, ◌==◌, nat_lt, List, [], ◌∷◌, length, take, drop, slice_index, codes, map, fold, if◌then◌else◌}
use Rattle.std.specs.List.{list_all, list_any, position_or_len, zip}
use Rattle.cps_text.specs.Parts.{ends_part, parts_of}

abbrev pub opening_parenthesis : ℕ
opening_parenthesis = slice_index (codes "(") 0

abbrev pub closing_parenthesis : ℕ
closing_parenthesis = slice_index (codes ")") 0

-- how many parentheses are open behind a character; a `)` without an open `(` is text
abbrev pub depth_behind : ℕ → ℕ → ℕ
depth_behind depth character = if character == opening_parenthesis then depth + 1 else (if character == closing_parenthesis then depth - 1 else depth)

abbrev pub depth_of : List ℕ → ℕ
depth_of text = fold depth_behind 0 text

-- how many are open before each character
abbrev pub depths : ℕ → List ℕ → List ℕ
depths depth [] = []
depths depth (character ∷ text) = depth ∷ depths (depth_behind depth character) text

-- an argument ends at the first comma or blank outside parentheses
abbrev pub ends_argument : ℕ × ℕ → Bool
ends_argument (depth, character) = depth == 0 && ends_part character

abbrev pub length_at : ℕ → List ℕ → ℕ
length_at depth text = position_or_len ends_argument (zip (depths depth text) text)

abbrev pub argument_len : List ℕ → ℕ
argument_len text = length_at 0 text

-- a parenthesis stays open
abbrev pub is_unclosed : List ℕ → Bool
is_unclosed argument = nat_lt 0 (depth_of argument)

abbrev pub has_unclosed : List ℕ → Bool
has_unclosed tail = list_any is_unclosed (parts_of argument_len tail)

-- one pair of parentheses that holds all the rest
abbrev pub are_inside : List ℕ → Bool
are_inside text = list_all (nat_lt 0) text

abbrev pub is_pair : List ℕ → Bool
is_pair argument = nat_lt 1 (length argument) && (depth_of argument == 0 && are_inside (drop 1 (depths 0 argument)))

-- an argument that is such a pair loses it
abbrev pub without_pair : List ℕ → List ℕ
without_pair argument = if is_pair argument then drop 1 (take (length argument - 1) argument) else argument

-- the arguments of a tail in which each parenthesis is closed
abbrev pub arguments_of : List ℕ → List (List ℕ)
arguments_of tail = map without_pair (parts_of argument_len tail)
