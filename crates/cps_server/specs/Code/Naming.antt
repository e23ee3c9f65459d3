-- For the code, not part of what a reader believes: what is told of the name at a position of a deck.
use Rattle.std.specs.Prelude.{ℕ, Bool, List, Option, option_map}
use Rattle.std.specs.Borrow.{Bor}
use Rattle.serde_json.specs.Data.{Data}
use Rattle.cps_mention.specs.declared.caret.Caret.{Caret}
use Rattle.cps_mention.specs.declared.mention.Mention.{Mention}
use Rattle.cps_mention.specs.declared.spot.Spot.{Spot}
use Rattle.cps_mention.specs.Spots.{definitions}
use Rattle.cps_rpc.specs.declared.position.Position.{Position}
use Rattle.cps_server.specs.declared.queried_text.QueriedText.{QueriedText}
use Rattle.cps_server.specs.Hovers as hovers
use Rattle.cps_server.specs.Locations as told
use Rattle.cps_server.specs.Openers as openers
use Rattle.cps_server.specs.Results as results

abbrev pub TellsDefinition : QueriedText → Position → Data → Type 0
TellsDefinition deck position json = told.TellsDefinition deck.encoding deck.uri.now deck.document.now position json

abbrev pub TellsDefined : QueriedText → Position → Data → Type 0
TellsDefined deck position json = told.TellsDefined deck.encoding deck.uri.now deck.document.now position json

abbrev pub TellsPlaces : QueriedText → Position → Data → Type 0
TellsPlaces deck position json = told.TellsPlaces deck.encoding deck.document.now position json

abbrev pub TellsOpener : QueriedText → Position → Data → Type 0
TellsOpener deck position json = openers.TellsOpener deck.encoding deck.uri.now deck.document.now position json

abbrev pub TellsPartners : QueriedText → Position → Data → Type 0
TellsPartners deck position json = openers.TellsPartners deck.encoding deck.document.now position json

abbrev pub TellsReferences : Bool → QueriedText → Position → Data → Type 0
TellsReferences definitions_too deck position json = told.TellsReferences definitions_too deck.encoding deck.uri.now deck.document.now position json

abbrev pub TellsHighlights : QueriedText → Position → Data → Type 0
TellsHighlights deck position json = told.TellsHighlights deck.encoding deck.document.now position json

-- the same by mentions alone
abbrev pub TellsNamed : QueriedText → Position → (Option Mention → List Spot → Data) → Data → Type 0
TellsNamed deck position named json = told.TellsNamed deck.encoding deck.document.now position named json

abbrev pub locations : QueriedText → List Spot → Data
locations deck spots = told.spot_locations deck.encoding deck.uri.now deck.document.now spots

abbrev pub TellsNamedDefinition : QueriedText → Position → Data → Type 0
TellsNamedDefinition deck position json =
    TellsNamed deck position (λ mention spots. locations deck (told.counted_by mention (definitions spots))) json

abbrev pub TellsNamedReferences : Bool → QueriedText → Position → Data → Type 0
TellsNamedReferences definitions_too deck position json =
    TellsNamed deck position (λ mention spots. locations deck (told.wanted definitions_too spots)) json

abbrev pub TellsNamedHighlights : QueriedText → Position → Data → Type 0
TellsNamedHighlights deck position json =
    TellsNamed deck position (λ mention spots. told.spot_highlights deck.encoding deck.document.now spots) json

abbrev pub TellsHover : QueriedText → Position → Data → Type 0
TellsHover deck position json = hovers.TellsHover deck.encoding deck.client.markup deck.document.now position json

abbrev pub ShowsNamed : QueriedText → Position → Data → Type 0
ShowsNamed deck position json = hovers.ShowsNamed deck.encoding deck.client.markup deck.document.now position json

-- the mention that is lent
abbrev pub lent : Option (Bor Mention) → Option Mention
lent mention = option_map (λ lent. lent.now) mention

-- what is shown first at a position of a deck, of the mention there
abbrev pub IsFront : QueriedText → Position → Option (Bor Mention) → List Spot → List ℕ → Type 0
IsFront deck position mention spots front = hovers.IsFront deck.encoding deck.document.now position (lent mention) spots front

-- where the mention stands around a caret
abbrev pub range_of_mention : QueriedText → Caret → Option (Bor Mention) → Option Data
range_of_mention deck caret mention = hovers.range_of_mention deck.encoding deck.document.now caret (lent mention)

-- what is shown by the word at a position
abbrev pub ShowsWord : QueriedText → Position → Data → Type 0
ShowsWord deck position json = results.TellsShown deck.encoding deck.client.markup deck.document.now position json
