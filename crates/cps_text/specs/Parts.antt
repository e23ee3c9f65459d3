-- The parts of a text that commas separate. How long the first part of a text is, `len` says: commas further in front don't count.
use Rattle.std.specs.Prelude.{ℕ, zero, suc, Bool, true, ◌==◌, List, [], ◌∷◌, ◌++◌, length, take, drop, slice_index, codes, Option, None, Some, if◌then◌else◌}
use Rattle.std.specs.List.{flat_map}
use Rattle.std.specs.Option.{option_map_or}
use Rattle.cps_text.specs.Text.{among, is_blank}

-- nothing stands before a text's first blank
abbrev pub begins_blank : List ℕ → Bool
begins_blank [] = true
begins_blank (character ∷ text) = is_blank character

abbrev pub comma : ℕ
comma = slice_index (codes ",") 0

-- a comma or a blank ends a part
abbrev pub ends_part : ℕ → Bool
ends_part = among (codes ", ")

abbrev pub first_part : (List ℕ → ℕ) → List ℕ → List ℕ
first_part len text = take (len text) text

-- what stands behind a comma in front
abbrev pub behind_comma : List ℕ → Option (List ℕ)
behind_comma [] = None
behind_comma (character ∷ text) = if character == comma then Some text else None

abbrev pub behind_first : (List ℕ → ℕ) → List ℕ → Option (List ℕ)
behind_first len text = behind_comma (drop (len text) text)

-- the parts of a text that begins one; a text has at most one more of them than it has characters
unfoldable pub parts_up_to : (List ℕ → ℕ) → ℕ → List ℕ → List (List ℕ)
parts_up_to len zero text = first_part len text ∷ []
parts_up_to len (suc more) text = first_part len text ∷ option_map_or (parts_up_to len more) (behind_first len text) []

unfoldable pub parts_from : (List ℕ → ℕ) → List ℕ → List (List ℕ)
parts_from len text = parts_up_to len (length text) text

-- the parts of a tail; one with an empty variable field has none
abbrev pub parts_of : (List ℕ → ℕ) → List ℕ → List (List ℕ)
parts_of len tail = if begins_blank tail then [] else parts_from len tail

-- parts with a comma between each two
abbrev pub with_commas : List (List ℕ) → List ℕ
with_commas [] = []
with_commas (part ∷ parts) = part ++ flat_map (λ next. comma ∷ next) parts
