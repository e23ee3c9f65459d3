-- What a server says to a message. From JSON-RPC 2.0 and the Language Server Protocol 3.17.
use Rattle.std.specs.Prelude.{◌≡◌, ℕ, ◌⊎◌, List, [], ◌∷◌, codes, unwrap_or}
use Rattle.serde_json.specs.Data.{Data, null}
use Rattle.serde_json.specs.Find.{get}
use Rattle.cps_rpc.specs.declared.error_code.ErrorCode.TheVariants.{InvalidRequest, ParseError}
use Rattle.cps_rpc.specs.Json.{IsJson, IsNoJson}
use Rattle.cps_rpc.specs.Message.{Message, request, notification, response, invalid, message_in}
use Rattle.cps_rpc.specs.Outgoing.{refusal}
use Rattle.cps_server.specs.Frames.{text_of}
use Rattle.cps_server.specs.Notices.{IsSilent, NotesAt, notice_named}
use Rattle.cps_server.specs.Requests.{Owed, Owes, after_request, answer_with, request_named}
use Rattle.cps_server.specs.ServerState.{ServerState}

-- the parameters of a message
abbrev pub params_of : Data → Data
params_of json = unwrap_or (get (codes "params") json) null

-- what is said to a message that asks this: to a request one answer under its identifier, and to a notification what it brings about
abbrev pub Hears : Message → Data → ServerState → List Data → ServerState → Type 0
Hears (request id method) params old said new =
    (owed : Owed) × Owes (request_named method) params old owed × (said ≡ answer_with id owed ∷ []) × (new ≡ after_request (request_named method) params old)
Hears (notification method) params old said new = NotesAt (notice_named method) params old said new
Hears response params old said new = IsSilent old said new
Hears invalid params old said new = (said ≡ refusal null InvalidRequest ∷ []) × (new ≡ old)

abbrev pub HearsJson : Data → ServerState → List Data → ServerState → Type 0
HearsJson json old said new = Hears (message_in json) (params_of json) old said new

-- what is said to bytes that are the JSON of a message
pub record AnswersJson (old : ServerState) (message : List ℕ) (said : List Data) (new : ServerState) : Type 0 where
  pub json : Data
  pub reads : IsJson message json
  pub hears : HearsJson json old said new

-- what is said to bytes that are none
pub record AnswersNoJson (old : ServerState) (message : List ℕ) (said : List Data) (new : ServerState) : Type 0 where
  pub none : IsNoJson message
  pub refuses : said ≡ refusal null ParseError ∷ []
  pub stays : new ≡ old

-- what a server writes at a message, and where it stands then
pub record IsAnswered (old : ServerState) (message text : List ℕ) (new : ServerState) : Type 0 where
  pub said : List Data
  pub heard : AnswersJson old message said new ⊎ AnswersNoJson old message said new
  pub written : text ≡ text_of said
