-- Data items. From the manual's sections on data items, numeric constants and character data; how far an item of characters reaches is told in the text crate.
use Rattle.std.specs.Prelude.{ℕ, ◌+◌, ◌-◌, ◌*◌, ◌^◌, not, Bool, List, ◌++◌, length, drop, slice_index, replicate, map, fold, codes, Option, option_map, unwrap_or, if◌then◌else◌}
use Rattle.std.specs.List.{before_first}
use Rattle.std.specs.Option.{option_or}
use Rattle.cps_text.specs.declared.data_item.Side.{Side}
use Rattle.cps_text.specs.declared.data_item.Side.TheVariants.{Left, Right, LeftWithBlanks}
use Rattle.cps_text.specs.DataItem.{ItemParts, cp_characters, pp_characters}
use Rattle.cps_text.specs.Display.{display_of}
use Rattle.cps_text.specs.Insertion.{is_of_run}
use Rattle.cps_text.specs.ItemInFront.{extent_of, item_in_front}
use Rattle.cps_text.specs.Text.{among}
use Rattle.cps_expr.specs.Number.{number_of}
use Rattle.cps_expr.specs.Word.{complement}
use Rattle.cps_expr.specs.declared.machine.Machine.{Machine}
use Rattle.cps_expr.specs.declared.machine.Machine.TheVariants.{Cp, Pp}
use Rattle.cps_expr.specs.declared.radix.Radix.{Radix}

-- the bits of a word
abbrev pub bits_of : Machine → ℕ
bits_of Cp = 60
bits_of Pp = 12

-- the characters of a word, of 6 bits each
abbrev pub characters_in_word : Machine → ℕ
characters_in_word Cp = cp_characters
characters_in_word Pp = pp_characters

-- a sign, and the letters, digits and points behind it
abbrev pub begins : List ℕ → List ℕ → Bool
begins signs text = among signs (slice_index text 0)

abbrev pub sign_len : List ℕ → ℕ
sign_len text = if begins (codes "+-") text then 1 else 0

abbrev pub numeral_of : List ℕ → List ℕ
numeral_of text = before_first (λ c. not (is_of_run c)) (drop (sign_len text) text)

-- a minus sign complements the whole word
abbrev pub signed_word : Machine → List ℕ → ℕ → ℕ
signed_word machine text number = if begins (codes "-") text then complement (bits_of machine) number else number

-- a number whose magnitude fits the word
abbrev pub number_item : Radix → Machine → List ℕ → Option (ℕ × ℕ)
number_item radix machine text =
    option_map (λ number. (signed_word machine text number, sign_len text + length (numeral_of text))) (number_of (2 ^ bits_of machine) radix (numeral_of text))

-- display codes, 6 bits each, one behind the other
abbrev pub codes_of : List ℕ → List ℕ
codes_of characters = map (λ c. unwrap_or (display_of c) 0) characters

abbrev pub with_code : ℕ → ℕ → ℕ
with_code front code = front * 64 + code

abbrev pub packed : List ℕ → ℕ
packed word = fold with_code 0 word

abbrev pub blank_code : ℕ
blank_code = 0o55

-- so many codes, the given ones first
abbrev pub filled : ℕ → ℕ → List ℕ → List ℕ
filled count code given = given ++ replicate (count - length given) code

-- characters as a word of so many, filled up behind with a code
abbrev pub packed_characters : ℕ → ℕ → List ℕ → ℕ
packed_characters most code characters = packed (filled most code (codes_of characters))

-- L has zeros behind the characters, H blanks, R zeros before them
abbrev pub sided : ℕ → Side → List ℕ → List ℕ
sided most Left given = filled most 0 given
sided most LeftWithBlanks given = filled most blank_code given
sided most Right given = replicate (most - length given) 0 ++ given

-- the word of an item of characters; blanks stand for those past the text's end
abbrev pub text_word : ℕ → ItemParts → ℕ
text_word most item = packed (sided most item.side (filled item.count blank_code (codes_of item.characters)))

abbrev pub text_item : ℕ → List ℕ → Option (ℕ × ℕ)
text_item most text = option_map (λ item. (text_word most item, extent_of text item)) (item_in_front most text)

-- the word of the item in front of a text, and how many characters the item has
abbrev pub item_of : Radix → Machine → List ℕ → Option (ℕ × ℕ)
item_of radix machine text = option_or (number_item radix machine text) (text_item (characters_in_word machine) text)
