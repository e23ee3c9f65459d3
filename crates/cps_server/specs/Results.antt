-- What a server tells of a text that an editor has open, in JSON. From the Language Server Protocol 3.17; what is shown of a line is our own.
use Rattle.std.specs.Prelude.{◌≡◌, ℕ, ◌+◌, ◌-◌, min, Bool, true, List, [], ◌∷◌, ◌++◌, length, map, codes, flat_map, Option, Some, None, option_and_then, slice_get, if◌then◌else◌}
use Rattle.std.specs.List.{AllZip, range_with_len}
use Rattle.std.specs.Str.Lossy.{utf8_lossy}
use Rattle.serde_json.specs.Data.{Data, unsigned, null, boolean, number, string, array, object, no_members, member}
use Rattle.serde_json.specs.View.{items_of}
use Rattle.cps_list.specs.declared.mention.Mention.{Mention}
use Rattle.cps_final.specs.Finals.{Finals}
use Rattle.cps_final.specs.Outcome.{Outcome}
use Rattle.cps_edit.specs.Assembly.{assembly_of, outcomes_of}
use Rattle.cps_rpc.specs.declared.encoding.Encoding.{Encoding}
use Rattle.cps_rpc.specs.declared.position.Position.{Position}
use Rattle.cps_rpc.specs.declared.position.Range.{Range}
use Rattle.cps_server.specs.Document.{source_of_text}
use Rattle.cps_rpc.specs.declared.markup.Markup.{Markup}
use Rattle.cps_rpc.specs.declared.markup.Markup.TheVariants.{Plain, Markdown}
use Rattle.cps_server.specs.Rows.{Shows, hint_of, line_listing}
use Rattle.cps_server.specs.Symbols.{line_of}
use Rattle.cps_server.specs.Ranges.{IsInLine, location, position, told_units}

-- a text of characters; all of its bytes are ASCII, unless a line has others
abbrev pub text_json : List ℕ → Data
text_json text = string (utf8_lossy text)

-- each of a list is told, in its order, and nothing else
abbrev pub TellsEach : {A : Type 0} → (A → Data → Type 0) → List A → Data → Type 0
TellsEach tells list json = (told : List Data) × AllZip tells list told × (json ≡ array (items_of told))

-- ---- rows

-- the name of a form of texts
abbrev pub markup_name : Markup → List ℕ
markup_name Plain = codes "plaintext"
markup_name Markdown = codes "markdown"

-- rows in a form: as they stand, or fenced as a block of code
abbrev pub marked : Markup → List ℕ → List ℕ
marked Plain rows = rows
marked Markdown rows = codes "```text\n" ++ rows ++ codes "```"

-- rows of a text, shown in a form
abbrev pub contents : Markup → List ℕ → Data
contents markup rows = object (member (codes "kind") (string (markup_name markup)) (member (codes "value") (text_json (marked markup rows)) no_members))

-- those, and the range of the name of which they are; null where there are none
abbrev pub hover : Markup → Option (List ℕ) → Option Data → Data
hover markup None range = null
hover markup (Some rows) None = object (member (codes "contents") (contents markup rows) no_members)
hover markup (Some rows) (Some range) = object (member (codes "contents") (contents markup rows) (member (codes "range") range no_members))

abbrev pub TellsShown : Encoding → Markup → List ℕ → Position → Data → Type 0
TellsShown encoding markup text position json = (shown : Option (List ℕ)) × Shows encoding text position shown × (json ≡ hover markup shown None)

-- ---- lines on which symbols stand

-- the line of a mention, in the document of a URI
abbrev pub TellsMention : List ℕ → Mention → Data → Type 0
TellsMention uri mention json = (range : Data) × IsInLine (mention.line - 1) range × (json ≡ location uri range)

-- the first of some; null where there is none
abbrev pub TellsFirst : List ℕ → List Mention → Data → Type 0
TellsFirst uri [] json = json ≡ null
TellsFirst uri (mention ∷ mentions) json = TellsMention uri mention json

-- the range of a mention in its line; its kind is 3 where the line defines the symbol, and 2 where it reads it
abbrev pub highlight_kind : Bool → ℕ
highlight_kind is_definition = if is_definition then 3 else 2

abbrev pub highlight : ℕ → Data → Data
highlight kind range = object (member (codes "kind") (number (unsigned kind)) (member (codes "range") range no_members))

abbrev pub TellsHighlight : Mention → Data → Type 0
TellsHighlight mention json = (range : Data) × IsInLine (mention.line - 1) range × (json ≡ highlight (highlight_kind mention.is_definition) range)

-- ---- the symbols of a text

-- what holds at the end of a text's assembly
abbrev pub finals_in : List ℕ → Finals
finals_in text = (assembly_of (source_of_text text)).finals

-- ---- beside lines

-- what is shown at the end of a line, behind so many units
abbrev pub hint : ℕ → ℕ → List ℕ → Data
hint line character text =
    object (member (codes "label") (text_json text) (member (codes "paddingLeft") (boolean true) (member (codes "position") (position line character) no_members)))

abbrev pub hint_in : ℕ → ℕ → Option (List ℕ) → List Data
hint_in line character None = []
hint_in line character (Some text) = hint line character text ∷ []

-- what is shown beside a line of a text, from 0
abbrev pub text_beside : List ℕ → ℕ → Option (List ℕ)
text_beside text line = option_and_then (λ (outcome : Outcome). hint_of outcome.rows) (slice_get (outcomes_of (source_of_text text)) line)

-- that at the end of the line, if there is something
abbrev pub hint_at : Encoding → List ℕ → ℕ → List Data
hint_at encoding text line =
    hint_in line (told_units encoding (line_of text line) (length (line_of text line))) (text_beside text line)

-- how many lines of a source a range has, from its first line through its last
abbrev pub lines_within : ℕ → Range → ℕ
lines_within count range = min count (range.end.line + 1) - range.start.line

-- those of the lines of a range
abbrev pub hints_in : Encoding → List ℕ → Range → List Data
hints_in encoding text range =
    flat_map (hint_at encoding text) (range_with_len range.start.line (lines_within (length (source_of_text text)) range))

-- ---- the listing

-- the rows of a line, from 0, as the listing has them
abbrev pub listing_json : List ℕ → ℕ → Data
listing_json text line = text_json (line_listing text line)

-- those of each line of a range
abbrev pub listings_in : List ℕ → Range → List Data
listings_in text range = map (listing_json text) (range_with_len range.start.line (lines_within (length (source_of_text text)) range))
