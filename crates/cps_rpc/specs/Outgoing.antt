-- Messages that a server sends. From JSON-RPC 2.0. Members stand in the order of their names.
use Rattle.std.specs.Prelude.{ℕ, List, codes}
use Rattle.serde_json.specs.Data.{Data, number, string, object, no_members, member}
use Rattle.serde_json.specs.Find.{of_integer}
use Rattle.cps_rpc.specs.declared.error_code.ErrorCode.{ErrorCode}
use Rattle.cps_rpc.specs.declared.error_code.ErrorCode.TheVariants.{RequestFailed}
use Rattle.cps_rpc.specs.ErrorCode.{number_of, text_of}

-- the version of JSON-RPC
abbrev pub version : Data
version = string (codes "2.0")

-- the response to the request of an identifier: what it asked for
abbrev pub response : Data → Data → Data
response id found = object (member (codes "id") id (member (codes "jsonrpc") version (member (codes "result") found no_members)))

-- why a request is refused, in these words
abbrev pub error_of : ErrorCode → List ℕ → Data
error_of code words = object (member (codes "code") (number (of_integer (number_of code))) (member (codes "message") (string words) no_members))

-- the response that tells the error of the request of an identifier
abbrev pub error_response : Data → Data → Data
error_response id error = object (member (codes "error") error (member (codes "id") id (member (codes "jsonrpc") version no_members)))

-- the one that refuses the request
abbrev pub refusal : Data → ErrorCode → Data
refusal id code = error_response id (error_of code (text_of code))

-- and the one that says in words why the request failed
abbrev pub failure : Data → List ℕ → Data
failure id words = error_response id (error_of RequestFailed words)

-- the notification of a method: what is told
abbrev pub notification : List ℕ → Data → Data
notification method params =
    object (member (codes "jsonrpc") version (member (codes "method") (string method) (member (codes "params") params no_members)))
