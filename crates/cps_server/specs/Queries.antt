-- What is told an editor that asks of a text which it has open. From the Language Server Protocol 3.17; `compass/rows` is our own.
use Rattle.std.specs.Prelude.{◌≡◌, ℕ, List, bytes_eq, codes, Option, Some, None, if◌then◌else◌}
use Rattle.serde_json.specs.Data.{Data, array}
use Rattle.serde_json.specs.View.{items_of}
use Rattle.cps_rpc.specs.declared.encoding.Encoding.{Encoding}
use Rattle.cps_rpc.specs.declared.client.Client.{Client}
use Rattle.cps_rpc.specs.Params.{position_at, range_at, wants_definitions}
use Rattle.cps_server.specs.declared.queried_text.QueriedText.{QueriedText}
use Rattle.cps_server.specs.declared.query.Query.{Query}
use Rattle.cps_server.specs.declared.query.Query.TheVariants.{Hover, Definition, References, Highlights, Symbols, Hints, Completions, Listing, FoldingRanges, Signatures, Actions, Tokens, RangeTokens, Formats, RangeFormats}
use Rattle.cps_server.specs.Completions.{completions_at}
use Rattle.cps_server.specs.Actions.{TellsActions}
use Rattle.cps_server.specs.Foldings.{TellsFoldings}
use Rattle.cps_server.specs.Formats.{TellsFormat, TellsFormatIn}
use Rattle.cps_server.specs.Signatures.{TellsSignature}
use Rattle.cps_server.specs.Tokens.{TellsTokens, TellsTokensIn}
use Rattle.cps_server.specs.Hovers.{TellsHover}
use Rattle.cps_server.specs.Locations.{TellsDefinition, TellsHighlights, TellsReferences}
use Rattle.cps_server.specs.Outline.{TellsSymbols}
use Rattle.cps_server.specs.Results.{hints_in, listings_in}

-- the query of a method that asks of the words of a text, or for edits
unfoldable pub later_named : List ℕ → Option Query
later_named method =
    if bytes_eq method (codes "textDocument/foldingRange") then Some FoldingRanges
    else (if bytes_eq method (codes "textDocument/signatureHelp") then Some Signatures
    else (if bytes_eq method (codes "textDocument/codeAction") then Some Actions
    else (if bytes_eq method (codes "textDocument/semanticTokens/full") then Some Tokens
    else (if bytes_eq method (codes "textDocument/semanticTokens/range") then Some RangeTokens
    else (if bytes_eq method (codes "textDocument/formatting") then Some Formats
    else (if bytes_eq method (codes "textDocument/rangeFormatting") then Some RangeFormats else None))))))

-- the query of a method
abbrev pub query_named : List ℕ → Option Query
query_named method =
    if bytes_eq method (codes "textDocument/hover") then Some Hover
    else (if bytes_eq method (codes "textDocument/definition") then Some Definition
    else (if bytes_eq method (codes "textDocument/references") then Some References
    else (if bytes_eq method (codes "textDocument/documentHighlight") then Some Highlights
    else (if bytes_eq method (codes "textDocument/documentSymbol") then Some Symbols
    else (if bytes_eq method (codes "textDocument/inlayHint") then Some Hints
    else (if bytes_eq method (codes "textDocument/completion") then Some Completions
    else (if bytes_eq method (codes "compass/rows") then Some Listing else later_named method)))))))

-- a result is told where the parameters have what it is asked of, and nothing where they are wrong
abbrev pub TellsOf : {A : Type 0} → Option A → (A → Data → Type 0) → Option Data → Type 0
TellsOf None tells told = told ≡ None
TellsOf (Some asked) tells told = (json : Data) × (told ≡ Some json) × tells asked json

-- what is told of the text under a URI, by the parameters of a query; nothing where they are wrong
abbrev pub Tells : Query → Data → Encoding → Client → List ℕ → List ℕ → Option Data → Type 0
Tells Hover params encoding client uri text told = TellsOf (position_at params) (λ position json. TellsHover encoding client.markup text position json) told
Tells Definition params encoding client uri text told =
    TellsOf (position_at params) (λ position json. TellsDefinition encoding uri text position json) told
Tells References params encoding client uri text told =
    TellsOf (position_at params) (λ position json. TellsReferences (wants_definitions params) encoding uri text position json) told
Tells Highlights params encoding client uri text told =
    TellsOf (position_at params) (λ position json. TellsHighlights encoding text position json) told
Tells Symbols params encoding client uri text told = (json : Data) × (told ≡ Some json) × TellsSymbols client.takes_trees text json
Tells Hints params encoding client uri text told = TellsOf (range_at params) (λ range json. json ≡ array (items_of (hints_in encoding text range))) told
Tells Completions params encoding client uri text told =
    TellsOf (position_at params) (λ position json. json ≡ array (items_of (completions_at encoding text position))) told
Tells Listing params encoding client uri text told = TellsOf (range_at params) (λ range json. json ≡ array (items_of (listings_in text range))) told
Tells FoldingRanges params encoding client uri text told = (json : Data) × (told ≡ Some json) × TellsFoldings text json
Tells Signatures params encoding client uri text told = TellsOf (position_at params) (λ position json. TellsSignature text position json) told
Tells Actions params encoding client uri text told = TellsOf (range_at params) (λ range json. TellsActions encoding uri text json) told
Tells Tokens params encoding client uri text told = (json : Data) × (told ≡ Some json) × TellsTokens encoding text json
Tells RangeTokens params encoding client uri text told = TellsOf (range_at params) (λ range json. TellsTokensIn encoding text range json) told
Tells Formats params encoding client uri text told = (json : Data) × (told ≡ Some json) × TellsFormat encoding text json
Tells RangeFormats params encoding client uri text told = TellsOf (range_at params) (λ range json. TellsFormatIn encoding text range json) told

-- what is told of a deck
abbrev pub TellsOfDeck : Query → Data → QueriedText → Option Data → Type 0
TellsOfDeck query params deck told = Tells query params deck.encoding deck.client deck.uri.now deck.document.now told
