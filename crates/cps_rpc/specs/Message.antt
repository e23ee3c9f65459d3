-- What a message asks. From JSON-RPC 2.0, as the Language Server Protocol 3.17 uses it. The member `jsonrpc` isn't looked at.
use Rattle.std.specs.Prelude.{ℕ, Bool, true, false, not, ◌||◌, List, Option, Some, None, codes, is_some, option_and_then, if◌then◌else◌}
use Rattle.serde_json.specs.Data.{Data, null, boolean, number, string, array, object}
use Rattle.serde_json.specs.Find.{get, as_str, is_float}
use Rattle.serde_json.specs.View.{view}
use Rattle.cps_rpc.specs.declared.message.Message as declared
use Rattle.cps_rpc.specs.declared.message.Message.TheVariants.{Request, Notification, Response, Invalid}

-- a method under an identifier, which is to be answered; a method alone, which isn't; the answer to a request; or none of these
pub data Message : Type 0 where
  request : Data → List ℕ → Message
  notification : List ℕ → Message
  response : Message
  invalid : Message

-- the method that a message names
abbrev pub method_of : Data → Option (List ℕ)
method_of json = option_and_then as_str (get (codes "method") json)

-- an identifier is a whole number of 64 bits, written without a point, or a text
abbrev pub is_identifier : Data → Bool
is_identifier null = false
is_identifier (boolean b) = false
is_identifier (number n) = not (is_float n)
is_identifier (string s) = true
is_identifier (array ds) = false
is_identifier (object ms) = false

-- a message has what an answer has
abbrev pub is_answer : Data → Bool
is_answer json = is_some (get (codes "result") json) || is_some (get (codes "error") json)

-- what a message asks, by its method, its identifier, and whether it is an answer
abbrev pub message_by : Option (List ℕ) → Option Data → Bool → Message
message_by (Some method) (Some id) answers = if is_identifier id then request id method else invalid
message_by (Some method) None answers = notification method
message_by None (Some id) answers = if answers then response else invalid
message_by None None answers = invalid

abbrev pub message_in : Data → Message
message_in json = message_by (method_of json) (get (codes "id") json) (is_answer json)

-- what the code tells
abbrev pub value_of : declared.Message → Message
value_of (Request id method) = request (view id.now) method.now
value_of (Notification method) = notification method.now
value_of Response = response
value_of Invalid = invalid
