-- What a server answers to requests. From the Language Server Protocol 3.17.
use Rattle.std.specs.Prelude.{◌≡◌, ℕ, ◌⊎◌, true, List, [], ◌∷◌, codes, bytes_eq, Option, Some, None, option_and_then, option_map, if◌then◌else◌}
use Rattle.serde_json.specs.Data.{Data, unsigned, null, boolean, number, string, array, object, no_members, member}
use Rattle.serde_json.specs.View.{items_of}
use Rattle.cps_rpc.specs.declared.encoding.Encoding.{Encoding}
use Rattle.cps_rpc.specs.declared.encoding.Encoding.TheVariants.{Utf8, Utf16}
use Rattle.cps_rpc.specs.declared.client.Client.{Client}
use Rattle.cps_rpc.specs.Client.{client_in}
use Rattle.cps_rpc.specs.Params.{encoding_in, position_at, uri_in}
use Rattle.cps_rpc.specs.declared.error_code.ErrorCode.{ErrorCode}
use Rattle.cps_rpc.specs.declared.error_code.ErrorCode.TheVariants.{InvalidRequest, MethodNotFound, InvalidParams, ServerNotInitialized}
use Rattle.cps_rpc.specs.Outgoing.{failure, response, refusal}
use Rattle.cps_server.specs.declared.query.Query.{Query}
use Rattle.cps_server.specs.Queries.{Tells, query_named}
use Rattle.cps_server.specs.declared.server_phase.ServerPhase.{ServerPhase}
use Rattle.cps_server.specs.declared.server_phase.ServerPhase.TheVariants.{Uninitialized, Running, ShutDown}
use Rattle.cps_server.specs.declared.request_method.RequestMethod.{RequestMethod}
use Rattle.cps_server.specs.declared.request_method.RequestMethod.TheVariants.{Initialize, Shutdown, Query as Asks, PrepareRename, Rename, Unknown}
use Rattle.cps_server.specs.Renames.{TellsName, TellsRename, wish_in}
use Rattle.cps_server.specs.ServerState.{OpenText, ServerState, text_under, version_under}
use Rattle.cps_server.specs.Tokens.{legend}
use Rattle.cps_version.specs.declared.version.TheConstants.{VERSION}

-- the request that is this query; an unknown one where it is none
abbrev pub request_of : Option Query → RequestMethod
request_of None = Unknown
request_of (Some query) = Asks query

-- the request of a method
abbrev pub request_named : List ℕ → RequestMethod
request_named method =
    if bytes_eq method (codes "initialize") then Initialize
    else (if bytes_eq method (codes "shutdown") then Shutdown
    else (if bytes_eq method (codes "textDocument/prepareRename") then PrepareRename
    else (if bytes_eq method (codes "textDocument/rename") then Rename else request_of (query_named method))))

-- ---- what a server tells of itself

-- the name of an encoding
abbrev pub encoding_name : Encoding → List ℕ
encoding_name Utf8 = codes "utf-8"
encoding_name Utf16 = codes "utf-16"

-- texts are opened and closed, and changes tell ranges
abbrev pub synchronization : Data
synchronization = object (member (codes "change") (number (unsigned 2)) (member (codes "openClose") (boolean true) no_members))

-- the name at a position may be asked for before it is called otherwise
abbrev pub renaming : Data
renaming = object (member (codes "prepareProvider") (boolean true) no_members)

-- the characters behind which the operands of an operation are shown
abbrev pub triggers : Data
triggers = object (member (codes "triggerCharacters") (array (items_of (string (codes " ") ∷ string (codes ",") ∷ []))) no_members)

-- the kind of what may be mended
abbrev pub kinds : Data
kinds = object (member (codes "codeActionKinds") (array (items_of (string (codes "quickfix") ∷ []))) no_members)

-- words are told of a whole text and of a range, by this legend
abbrev pub semantic_tokens : Data
semantic_tokens =
    object (member (codes "full") (boolean true) (member (codes "legend") legend (member (codes "range") (boolean true) no_members)))

-- what is told of positions, of what may be mended, of names that are called otherwise, of words, of operands, and of texts
abbrev pub capabilities_of : List ℕ → Data → Data → Data → Data → Data → Data
capabilities_of positions mendings names words operands texts = object (member (codes "codeActionProvider") mendings
    (member (codes "completionProvider") (object no_members) (member (codes "definitionProvider") (boolean true)
    (member (codes "documentFormattingProvider") (boolean true)
    (member (codes "documentHighlightProvider") (boolean true) (member (codes "documentRangeFormattingProvider") (boolean true)
    (member (codes "documentSymbolProvider") (boolean true) (member (codes "foldingRangeProvider") (boolean true)
    (member (codes "hoverProvider") (boolean true) (member (codes "inlayHintProvider") (boolean true)
    (member (codes "positionEncoding") (string positions) (member (codes "referencesProvider") (boolean true)
    (member (codes "renameProvider") names (member (codes "semanticTokensProvider") words (member (codes "signatureHelpProvider") operands
    (member (codes "textDocumentSync") texts no_members))))))))))))))))

-- what may be asked
abbrev pub capabilities : Encoding → Data
capabilities encoding = capabilities_of (encoding_name encoding) kinds renaming semantic_tokens triggers synchronization

-- the name and the version of the server
abbrev pub server_info : Data
server_info = object (member (codes "name") (string (codes "compass")) (member (codes "version") (string VERSION.now) no_members))

-- the result of `initialize`
abbrev pub introduction : Encoding → Data
introduction encoding = object (member (codes "capabilities") (capabilities encoding)
    (member (codes "serverInfo") server_info no_members))

-- ---- answers

-- what is owed to a request: a refusal, what it asked for, or words that say why that can't be done
pub data Owed : Type 0 where
  refused : ErrorCode → Owed
  found : Data → Owed
  failed : List ℕ → Owed

-- what is told to a query; nothing is told where its parameters are wrong
abbrev pub owed_by : Option Data → Owed
owed_by None = refused InvalidParams
owed_by (Some told) = found told

-- what is owed to a query of the text under a URI, if it is open
abbrev pub OwesOf : Query → Data → Encoding → Client → List ℕ → Option (List ℕ) → Owed → Type 0
OwesOf query params encoding client uri None owed = owed ≡ refused InvalidParams
OwesOf query params encoding client uri (Some text) owed =
    (told : Option Data) × Tells query params encoding client uri text told × (owed ≡ owed_by told)

abbrev pub OwesUnder : Query → Data → ServerState → Option (List ℕ) → Owed → Type 0
OwesUnder query params old None owed = owed ≡ refused InvalidParams
OwesUnder query params old (Some uri) owed = OwesOf query params old.encoding old.client uri (text_under uri old.texts) owed

abbrev pub OwesQuery : Query → Data → ServerState → Owed → Type 0
OwesQuery query params old owed = OwesUnder query params old (uri_in params) owed

-- some words say why what was asked can't be done
abbrev pub HasFailed : Owed → Type 0
HasFailed owed = (words : List ℕ) × (owed ≡ failed words)

-- what is owed is told, or words say why it can't be; which of the two is free
abbrev pub IsOwed : (Data → Type 0) → Owed → Type 0
IsOwed tells owed = ((json : Data) × tells json × (owed ≡ found json)) ⊎ HasFailed owed

-- the same to one who asks something of an open text; it is refused where no such text is open, or the parameters are wrong
abbrev pub OwesAsked : {A : Type 0} → Option OpenText → Option A → (OpenText → A → Data → Type 0) → Owed → Type 0
OwesAsked None asked tells owed = owed ≡ refused InvalidParams
OwesAsked (Some one) None tells owed = owed ≡ refused InvalidParams
OwesAsked (Some one) (Some asked) tells owed = IsOwed (tells one asked) owed

-- the open text that parameters name
abbrev pub open_by : List ℕ → ServerState → Option OpenText
open_by uri old = option_map (λ text. record { uri = uri; version = version_under uri old.texts; text = text }) (text_under uri old.texts)

abbrev pub open_in : Data → ServerState → Option OpenText
open_in params old = option_and_then (λ uri. open_by uri old) (uri_in params)

-- what is owed to one who asks whether the name at a position can be called otherwise, and to one who wishes it
abbrev pub OwesName : Data → ServerState → Owed → Type 0
OwesName params old owed = OwesAsked (open_in params old) (position_at params) (λ one at json. TellsName at json) owed

abbrev pub OwesRename : Data → ServerState → Owed → Type 0
OwesRename params old owed = OwesAsked (open_in params old) (wish_in params) (λ one wish json. TellsRename old.encoding old.client one wish json) owed

-- what is owed to a request in a phase, by its parameters
abbrev pub OwesIn : ServerPhase → RequestMethod → Data → ServerState → Owed → Type 0
OwesIn Uninitialized Initialize params old owed = owed ≡ found (introduction (encoding_in params))
OwesIn Uninitialized Shutdown params old owed = owed ≡ refused ServerNotInitialized
OwesIn Uninitialized (Asks query) params old owed = owed ≡ refused ServerNotInitialized
OwesIn Uninitialized PrepareRename params old owed = owed ≡ refused ServerNotInitialized
OwesIn Uninitialized Rename params old owed = owed ≡ refused ServerNotInitialized
OwesIn Uninitialized Unknown params old owed = owed ≡ refused ServerNotInitialized
OwesIn Running Initialize params old owed = owed ≡ refused InvalidRequest
OwesIn Running Shutdown params old owed = owed ≡ found null
OwesIn Running (Asks query) params old owed = OwesQuery query params old owed
OwesIn Running PrepareRename params old owed = OwesName params old owed
OwesIn Running Rename params old owed = OwesRename params old owed
OwesIn Running Unknown params old owed = owed ≡ refused MethodNotFound
OwesIn ShutDown request params old owed = owed ≡ refused InvalidRequest

abbrev pub Owes : RequestMethod → Data → ServerState → Owed → Type 0
Owes request params old owed = OwesIn old.phase request params old owed

-- where a server stands behind a request
abbrev pub moved_by : ServerPhase → RequestMethod → Data → ServerState → ServerState
moved_by Uninitialized Initialize params old = record old { phase = Running; encoding = encoding_in params; client = client_in params }
moved_by Uninitialized Shutdown params old = old
moved_by Uninitialized (Asks query) params old = old
moved_by Uninitialized PrepareRename params old = old
moved_by Uninitialized Rename params old = old
moved_by Uninitialized Unknown params old = old
moved_by Running Initialize params old = old
moved_by Running Shutdown params old = record old { phase = ShutDown }
moved_by Running (Asks query) params old = old
moved_by Running PrepareRename params old = old
moved_by Running Rename params old = old
moved_by Running Unknown params old = old
moved_by ShutDown request params old = old

abbrev pub after_request : RequestMethod → Data → ServerState → ServerState
after_request request params old = moved_by old.phase request params old

-- the answer to the request of an identifier
abbrev pub answer_with : Data → Owed → Data
answer_with id (refused code) = refusal id code
answer_with id (found result) = response id result
answer_with id (failed words) = failure id words
