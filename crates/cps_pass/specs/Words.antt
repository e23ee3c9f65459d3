-- CON, DATA and DIS: words from the beginning of a word on. From the manual's descriptions of these statements; that DIS has 1 to 100 words is our profile's.
use Rattle.std.specs.Prelude.{ℕ, ◌+◌, ◌-◌, ◌*◌, ◌/◌, false, List, [], length, map, take, drop, Option, None, Some}
use Rattle.std.specs.List.{range_with_len}
use Rattle.cps_text.specs.declared.limits.TheConstants.{MOST_COUNTED_WORDS}
use Rattle.cps_expr.specs.declared.machine.Machine.{Machine}
use Rattle.cps_expr.specs.declared.pseudo.DisText.{DisText}
use Rattle.cps_expr.specs.declared.pseudo.DisText.TheVariants.{Counted, Delimited}
use Rattle.cps_expr.specs.Expression.{Expression}
use Rattle.cps_expr.specs.Item.{bits_of, blank_code, characters_in_word, packed_characters}
use Rattle.cps_state.specs.declared.key.Control.{Control}
use Rattle.cps_state.specs.declared.made.Content.{Content}
use Rattle.cps_state.specs.declared.made.Content.TheVariants as content
use Rattle.cps_state.specs.Course.{Part}
use Rattle.cps_state.specs.Made.{field_hole}
use Rattle.cps_pass.specs.declared.placing.Site.{Site}
use Rattle.cps_pass.specs.declared.reading.Location.{Location}
use Rattle.cps_pass.specs.declared.value_now.ValueNow.{ValueNow}
use Rattle.cps_pass.specs.Numbers.{plain_number, between, no_number_flags}
use Rattle.cps_pass.specs.Places.{here_at}
use Rattle.cps_pass.specs.Placing.{asking_site, word_start, unread_from, unplaced, placed}
use Rattle.cps_pass.specs.ValueNow.{now}

-- words of a statement
abbrev pub words : List Content → Site → Part
words contents site = placed site (word_start site) contents false

-- with unreadable operands
abbrev pub unread_words_at : Site → Part
unread_words_at site = unread_from site (word_start site)

abbrev pub unread_words : Control → Location → Part
unread_words control location = asking_site control location unread_words_at

-- ---- CON: a word for each value

abbrev pub value_words : Machine → List Expression → List Content
value_words machine values = map (λ value. content.Value (field_hole (bits_of machine) value)) values

abbrev pub con : Control → Location → List Expression → Part
con control location values = asking_site control location (words (value_words control.machine values))

-- ---- DATA: a word for each item

abbrev pub number_words : Machine → List ℕ → List Content
number_words machine numbers = map (content.Number (bits_of machine)) numbers

abbrev pub data_words : Control → Location → List ℕ → Part
data_words control location numbers = asking_site control location (words (number_words control.machine numbers))

-- ---- DIS: characters, 6 bits each

-- so many words of characters; a code stands for those that are missing
abbrev pub text_words : Machine → ℕ → ℕ → List ℕ → List ℕ
text_words machine fill count text =
    map (λ word. packed_characters (characters_in_word machine) fill (take (characters_in_word machine) (drop (characters_in_word machine * word) text))) (range_with_len 0 count)

-- zero bits behind the characters, at least 12, to a word's end
abbrev pub delimited_words : Machine → List ℕ → List ℕ
delimited_words machine text = text_words machine 0 ((length text + 2 + (characters_in_word machine - 1)) / characters_in_word machine) text

-- None: there is no such number of words
abbrev pub counted_or_not : List ℕ → Site → ValueNow → Option ℕ → Part
counted_or_not text site value None = unplaced (no_number_flags site value) site (word_start site) []
counted_or_not text site value (Some count) = words (number_words site.machine (text_words site.machine blank_code count text)) site

abbrev pub displaying : DisText → Site → Part
displaying (Counted count text) site =
    now count (here_at site.block (word_start site)) (λ value. counted_or_not text site value (between 1 MOST_COUNTED_WORDS (plain_number value)))
displaying (Delimited text) site = words (number_words site.machine (delimited_words site.machine text)) site

abbrev pub dis : Control → Location → DisText → Part
dis control location text = asking_site control location (displaying text)
