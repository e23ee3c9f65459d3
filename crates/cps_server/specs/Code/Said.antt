-- For the code, not part of what a reader believes: what is added to what is said, and floats in that.
use Rattle.std.specs.Prelude.{◌≡◌, ℕ, Bool, false, List, ◌++◌}
use Rattle.serde_json.specs.Data.{Data}
use Rattle.serde_json.specs.Written.{has_float}
use Rattle.cps_rpc.specs.Message.{Message, request, notification, response, invalid}
use Rattle.cps_server.specs.Frames.{text_of}
use Rattle.cps_server.specs.ServerState.{ServerState}

-- values are added of which this holds
pub record Adds (says : List Data → Type 0) (old new : List ℕ) : Type 0 where
  pub said : List Data
  pub right : says said
  pub added : new ≡ old ++ text_of said

-- from one state to another, values are added that were said on the way
abbrev pub Into : (ServerState → List Data → ServerState → Type 0) → ServerState → ServerState → List ℕ → List ℕ → Type 0
Into does old new said now = Adds (λ news. does old news new) said now

-- whether the identifier of a message has a float
abbrev pub has_float_id : Message → Bool
has_float_id (request id method) = has_float id
has_float_id (notification method) = false
has_float_id response = false
has_float_id invalid = false
