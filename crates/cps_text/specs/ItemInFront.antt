-- The data item of characters in front of a text, computed. The rule is told in `DataItem.antt`.
use Rattle.std.specs.Prelude.{ℕ, ◌+◌, ◌-◌, Bool, not, ◌&&◌, ◌==◌, nat_le, List, [], ◌∷◌, length, take, drop, Option, None, Some, option_map, if◌then◌else◌}
use Rattle.std.specs.List.{list_all, position, position_or_len}
use Rattle.std.specs.Option.{option_or, option_map_or}
use Rattle.cps_text.specs.DataItem.{ItemParts, is_delimiter, side_named}
use Rattle.cps_text.specs.Digits.{digits_number}
use Rattle.cps_text.specs.Display.{has_display}
use Rattle.cps_text.specs.Text.{is_digit}

abbrev pub is_count : ℕ → ℕ → Bool
is_count most count = nat_le 1 count && nat_le count most

-- the item of a letter and characters
abbrev pub item_with : ℕ → ℕ → ℕ → List ℕ → List ℕ → Option ItemParts
item_with most letter count characters rest =
    if is_count most count && list_all has_display characters
    then option_map (λ side. record { side = side; count = count; characters = characters; rest = rest }) (side_named letter) else None

abbrev pub is_no_digit : ℕ → Bool
is_no_digit character = not (is_digit 10 character)

-- how many digits stand in front
abbrev pub digits_len : List ℕ → ℕ
digits_len text = position_or_len is_no_digit text

-- what stands behind the count
abbrev pub counted_behind : ℕ → ℕ → List ℕ → Option ItemParts
counted_behind most count [] = None
counted_behind most count (letter ∷ text) = item_with most letter count (take count text) (drop count text)

abbrev pub counted_item : ℕ → List ℕ → Option ItemParts
counted_item most text = counted_behind most (digits_number 10 (take (digits_len text) text)) (drop (digits_len text) text)

-- what stands behind a delimiter, where the next one is
abbrev pub delimited_at : ℕ → ℕ → List ℕ → Option ℕ → Option ItemParts
delimited_at most letter text None = None
delimited_at most letter text (Some count) = item_with most letter count (take count text) (drop (count + 1) text)

abbrev pub delimited_behind : ℕ → ℕ → List ℕ → Option ItemParts
delimited_behind most letter [] = None
delimited_behind most letter (delimiter ∷ text) =
    if is_delimiter delimiter then delimited_at most letter text (position (λ c. c == delimiter) text) else None

abbrev pub delimited_item : ℕ → List ℕ → Option ItemParts
delimited_item most [] = None
delimited_item most (letter ∷ text) = delimited_behind most letter text

-- the item in front of a text, of at most so many characters
unfoldable pub item_in_front : ℕ → List ℕ → Option ItemParts
item_in_front most text = option_or (counted_item most text) (delimited_item most text)

-- how many characters an item takes, with its count or its delimiters
abbrev pub extent_of : List ℕ → ItemParts → ℕ
extent_of text item = length text - length item.rest

-- the same of the item in front of a text, 0 where none stands there
abbrev pub item_len : ℕ → List ℕ → ℕ
item_len most text = option_map_or (extent_of text) (item_in_front most text) 0
