-- What the parameters of messages say. From the Language Server Protocol 3.17. Members that are not named here are not looked at.
use Rattle.std.specs.Prelude.{ℕ, ℤ, ◌^◌, Bool, false, List, [], ◌∷◌, Option, Some, None, codes, nat_lt, bytes_eq, option_and_then, option_map, unwrap_or, if◌then◌else◌}
use Rattle.std.specs.List.{list_any}
use Rattle.serde_json.specs.Data.{Data, null, boolean, number, string, array, object, Items, no_items, item}
use Rattle.serde_json.specs.Find.{get, as_bool, as_number, as_i64, as_u64, as_str, as_array}
use Rattle.cps_rpc.specs.declared.encoding.Encoding.{Encoding}
use Rattle.cps_rpc.specs.declared.encoding.Encoding.TheVariants.{Utf8, Utf16}
use Rattle.cps_rpc.specs.declared.position.Position.{Position}
use Rattle.cps_rpc.specs.declared.position.Range.{Range}
use Rattle.cps_rpc.specs.declared.change.Change as told_change
use Rattle.cps_rpc.specs.declared.markup.Markup.{Markup}
use Rattle.cps_rpc.specs.declared.markup.Markup.TheVariants.{Plain, Markdown}
use Rattle.cps_rpc.specs.declared.opened_text.OpenedText as told_text

-- a member of that name that is a text
abbrev pub text_at : List ℕ → Data → Option (List ℕ)
text_at name json = option_and_then as_str (get name json)

-- the items of a list
abbrev pub items_in : Items → List Data
items_in no_items = []
items_in (item d ds) = d ∷ items_in ds

-- the items of a value that is a list
abbrev pub list_of : Data → Option (List Data)
list_of json = option_map items_in (as_array json)

-- ---- documents

abbrev pub uri_name : List ℕ
uri_name = codes "uri"

abbrev pub text_name : List ℕ
text_name = codes "text"

-- the URI of the document that parameters name
abbrev pub uri_in : Data → Option (List ℕ)
uri_in json = option_and_then (text_at uri_name) (get (codes "textDocument") json)

-- a text that is opened, and the URI of its document
pub record OpenedText : Type 0 where
  pub uri : List ℕ
  pub text : List ℕ

-- the text that a document has
abbrev pub opened_as : Data → Option OpenedText
opened_as document = option_and_then (λ uri. option_map (λ text. record { uri = uri; text = text }) (text_at text_name document)) (text_at uri_name document)

-- the text that parameters open
abbrev pub opened_in : Data → Option OpenedText
opened_in json = option_and_then opened_as (get (codes "textDocument") json)

-- the version that the document has which parameters name, where it is a whole number of 64 bits
abbrev pub whole_number : Data → Option ℤ
whole_number json = option_and_then as_i64 (as_number json)

abbrev pub version_in : Data → Option ℤ
version_in json = option_and_then whole_number (option_and_then (get (codes "version")) (get (codes "textDocument") json))

-- ---- positions

-- a whole number below 2^32
abbrev pub below_limit : ℕ → Option ℕ
below_limit n = if nat_lt n (2 ^ 32) then Some n else None

abbrev pub number_in : Data → Option ℕ
number_in json = option_and_then below_limit (option_and_then as_u64 (as_number json))

-- a position: the line, and the units before it in the line, both from 0
abbrev pub position_in : Data → Option Position
position_in json =
    option_and_then (λ line. option_map (λ character. record { line = line; character = character })
    (option_and_then number_in (get (codes "character") json))) (option_and_then number_in (get (codes "line") json))

-- a range: where it starts and ends
abbrev pub range_in : Data → Option Range
range_in json =
    option_and_then (λ start. option_map (λ end. record { start = start; end = end })
    (option_and_then position_in (get (codes "end") json))) (option_and_then position_in (get (codes "start") json))

-- the position of which a request asks
abbrev pub position_at : Data → Option Position
position_at json = option_and_then position_in (get (codes "position") json)

-- the range of which a request asks
abbrev pub range_at : Data → Option Range
range_at json = option_and_then range_in (get (codes "range") json)

-- ---- references

-- whether a request for references wants definitions too
abbrev pub wants_definitions : Data → Bool
wants_definitions json = unwrap_or (option_and_then as_bool (option_and_then (get (codes "includeDeclaration")) (get (codes "context") json))) false

-- ---- renaming

-- the new name that a request to rename tells
abbrev pub new_name_in : Data → Option (List ℕ)
new_name_in json = text_at (codes "newName") json

-- ---- changes

-- a change of a text: new text in the place of a range, or of all of it
pub record Change : Type 0 where
  pub range : Option Range
  pub text : List ℕ

-- the range that a change tells: none where the member is missing or null; a wrong one is told as no answer
abbrev pub told_as : Data → Option (Option Range)
told_as null = Some None
told_as (boolean b) = option_map Some (range_in (boolean b))
told_as (number n) = option_map Some (range_in (number n))
told_as (string s) = option_map Some (range_in (string s))
told_as (array ds) = option_map Some (range_in (array ds))
told_as (object ms) = option_map Some (range_in (object ms))

abbrev pub told_range : Option Data → Option (Option Range)
told_range None = Some None
told_range (Some json) = told_as json

-- the change that a value tells
abbrev pub change_in : Data → Option Change
change_in json =
    option_and_then (λ text. option_map (λ range. record { range = range; text = text }) (told_range (get (codes "range") json))) (text_at text_name json)

-- the changes that values tell, if each tells one
abbrev pub all_changes : List Data → Option (List Change)
all_changes [] = Some []
all_changes (json ∷ jsons) = option_and_then (λ change. option_map (λ changes. change ∷ changes) (all_changes jsons)) (change_in json)

-- the changes that parameters tell, in their order
abbrev pub changes_in : Data → Option (List Change)
changes_in json = option_and_then all_changes (option_and_then list_of (get (codes "contentChanges") json))

-- ---- encodings

-- the name of UTF-8
abbrev pub is_name : List ℕ → Bool
is_name name = bytes_eq name (codes "utf-8")

abbrev pub is_utf8 : Data → Bool
is_utf8 null = false
is_utf8 (boolean b) = false
is_utf8 (number n) = false
is_utf8 (string s) = is_name s
is_utf8 (array ds) = false
is_utf8 (object ms) = false

-- the encodings that an editor offers
abbrev pub offered : Data → Option (List Data)
offered json =
    option_and_then list_of (option_and_then (get (codes "positionEncodings")) (option_and_then (get (codes "general")) (get (codes "capabilities") json)))

-- UTF-8 where the editor offers it, else UTF-16
abbrev pub encoding_among : Option (List Data) → Encoding
encoding_among None = Utf16
encoding_among (Some names) = if list_any is_utf8 names then Utf8 else Utf16

abbrev pub encoding_in : Data → Encoding
encoding_in json = encoding_among (offered json)

-- ---- forms of texts

-- the form that a value names
abbrev pub markup_named : List ℕ → Option Markup
markup_named name =
    if bytes_eq name (codes "plaintext") then Some Plain else (if bytes_eq name (codes "markdown") then Some Markdown else None)

abbrev pub markup_of : Data → Option Markup
markup_of json = option_and_then markup_named (as_str json)

-- the first form that values name, else plain text
abbrev pub first_markup : List Data → Markup
first_markup [] = Plain
first_markup (json ∷ jsons) = unwrap_or (markup_of json) (first_markup jsons)

-- the forms in which an editor takes a hover
abbrev pub hover_forms : Data → Option (List Data)
hover_forms json =
    option_and_then list_of (option_and_then (get (codes "contentFormat")) (option_and_then (get (codes "hover"))
    (option_and_then (get (codes "textDocument")) (get (codes "capabilities") json))))

abbrev pub markup_among : Option (List Data) → Markup
markup_among None = Plain
markup_among (Some names) = first_markup names

abbrev pub markup_in : Data → Markup
markup_in json = markup_among (hover_forms json)

-- ---- what the code tells

abbrev pub value_of : told_change.Change → Change
value_of change = record { range = change.range; text = change.text.now }

abbrev pub opened_of : told_text.OpenedText → OpenedText
opened_of opened = record { uri = opened.uri.now; text = opened.text.now }
