-- Where the name at a position of a text stands, by mentions of names, as it is told. From the Language Server Protocol 3.17.
use Rattle.std.specs.Prelude.{◌≡◌, ℕ, ◌+◌, ◌-◌, ◌^◌, ◌⊎◌, min, Bool, not, ◌||◌, List, [], filter, map, Option, None, Some}
use Rattle.serde_json.specs.Data.{Data, array}
use Rattle.serde_json.specs.View.{items_of}
use Rattle.cps_edit.specs.Assembly.{assembly_of}
use Rattle.cps_mention.specs.declared.caret.Caret.{Caret}
use Rattle.cps_mention.specs.declared.mention.Mention.{Mention}
use Rattle.cps_mention.specs.declared.spot.Spot.{Spot}
use Rattle.cps_mention.specs.declared.spot.SpotKind.{SpotKind}
use Rattle.cps_mention.specs.declared.spot.SpotKind.TheVariants.{Defined, Used, Idle}
use Rattle.cps_mention.specs.declared.stretch.Stretch.{Stretch}
use Rattle.cps_mention.specs.Agreement.{AreMentions}
use Rattle.cps_mention.specs.Spots.{AreSpots, counted, definitions, is_definition, mention_at, spots_said}
use Rattle.cps_rpc.specs.declared.encoding.Encoding.{Encoding}
use Rattle.cps_rpc.specs.declared.position.Position.{Position}
use Rattle.cps_rpc.specs.Positions.{place_in}
use Rattle.cps_server.specs.Document.{source_of_text}
use Rattle.cps_server.specs.Openers.{TellsOpener, TellsPartners}
use Rattle.cps_server.specs.Ranges.{columns_range, location}
use Rattle.cps_server.specs.Results.{TellsEach, TellsFirst, TellsHighlight, TellsMention, highlight}
use Rattle.cps_server.specs.Symbols as words

-- ---- the name at a position

-- a caret at a position of a text, as far as one can be told
abbrev pub caret_at : Encoding → List ℕ → Position → Caret
caret_at encoding text position = record {
  line = min (position.line + 1) (2 ^ 32 - 1);
  column = place_in encoding (words.line_of text position.line) position.character + 1;
}

-- the mention there
abbrev pub named_at : Encoding → List ℕ → Position → List Mention → Option Mention
named_at encoding text position mentions = mention_at (caret_at encoding text position) mentions

-- the spots of what it means
abbrev pub said_of : List Mention → Option Mention → List Spot
said_of mentions None = []
said_of mentions (Some mention) = spots_said mention.meaning mentions

-- the definitions whose values counted there
abbrev pub counted_by : Option Mention → List Spot → List Spot
counted_by None spots = spots
counted_by (Some mention) spots = counted mention.from.items spots

-- what is told of the name at a position, by mentions that say all that the text's cross-reference has
pub record TellsNamed (encoding : Encoding) (text : List ℕ) (position : Position) (told : Option Mention → List Spot → Data) (json : Data) : Type 0 where
  pub mentions : List Mention
  pub say : AreMentions (assembly_of (source_of_text text)) mentions
  pub spots : List Spot
  pub stand : AreSpots (said_of mentions (named_at encoding text position mentions)) spots
  pub is : json ≡ told (named_at encoding text position mentions) spots

-- ---- spots

abbrev pub stretch_range : Encoding → List ℕ → Stretch → Data
stretch_range encoding text stretch =
    columns_range encoding (words.line_of text (stretch.line - 1)) (stretch.line - 1) stretch.first (stretch.end - 1)

abbrev pub spot_location : Encoding → List ℕ → List ℕ → Spot → Data
spot_location encoding uri text spot = location uri (stretch_range encoding text spot.stretch)

abbrev pub spot_locations : Encoding → List ℕ → List ℕ → List Spot → Data
spot_locations encoding uri text spots = array (items_of (map (spot_location encoding uri text) spots))

-- how a spot counts, as the protocol has it: it writes, reads, or is a text alone
abbrev pub spot_kind : SpotKind → ℕ
spot_kind Defined = 3
spot_kind Used = 2
spot_kind Idle = 1

abbrev pub spot_highlight : Encoding → List ℕ → Spot → Data
spot_highlight encoding text spot = highlight (spot_kind spot.kind) (stretch_range encoding text spot.stretch)

abbrev pub spot_highlights : Encoding → List ℕ → List Spot → Data
spot_highlights encoding text spots = array (items_of (map (spot_highlight encoding text) spots))

-- the spots that are wanted: those that don't define, or all
abbrev pub wanted : Bool → List Spot → List Spot
wanted definitions_too spots = filter (λ spot. definitions_too || not (is_definition spot.kind)) spots

-- ---- what is told of names, by mentions, or else by the words of lines

abbrev pub TellsDefined : Encoding → List ℕ → List ℕ → Position → Data → Type 0
TellsDefined encoding uri text position json =
    TellsNamed encoding text position (λ mention spots. spot_locations encoding uri text (counted_by mention (definitions spots))) json
    ⊎ TellsFirst uri (words.definitions (words.mentions_at encoding text position)) json

abbrev pub TellsReferences : Bool → Encoding → List ℕ → List ℕ → Position → Data → Type 0
TellsReferences definitions_too encoding uri text position json =
    TellsNamed encoding text position (λ mention spots. spot_locations encoding uri text (wanted definitions_too spots)) json
    ⊎ TellsEach (TellsMention uri) (words.wanted definitions_too (words.mentions_at encoding text position)) json

abbrev pub TellsPlaces : Encoding → List ℕ → Position → Data → Type 0
TellsPlaces encoding text position json =
    TellsNamed encoding text position (λ mention spots. spot_highlights encoding text spots) json
    ⊎ TellsEach TellsHighlight (words.mentions_at encoding text position) json

-- ---- what is told: of lines that open others, or else of names

abbrev pub TellsDefinition : Encoding → List ℕ → List ℕ → Position → Data → Type 0
TellsDefinition encoding uri text position json = TellsOpener encoding uri text position json ⊎ TellsDefined encoding uri text position json

abbrev pub TellsHighlights : Encoding → List ℕ → Position → Data → Type 0
TellsHighlights encoding text position json = TellsPartners encoding text position json ⊎ TellsPlaces encoding text position json
