-- The errors that requests are refused with. From JSON-RPC 2.0, and the last two from the Language Server Protocol 3.17, with texts of our own.
use Rattle.std.specs.Prelude.{ℕ, ℤ, pos, neg_ℤ, List, codes}
use Rattle.cps_rpc.specs.declared.error_code.ErrorCode.{ErrorCode}
use Rattle.cps_rpc.specs.declared.error_code.ErrorCode.TheVariants.{ParseError, InvalidRequest, MethodNotFound, InvalidParams, ServerNotInitialized, RequestFailed}

-- the number of an error
abbrev pub number_of : ErrorCode → ℤ
number_of ParseError = neg_ℤ (pos 32700)
number_of InvalidRequest = neg_ℤ (pos 32600)
number_of MethodNotFound = neg_ℤ (pos 32601)
number_of InvalidParams = neg_ℤ (pos 32602)
number_of ServerNotInitialized = neg_ℤ (pos 32002)
number_of RequestFailed = neg_ℤ (pos 32803)

-- its text
abbrev pub text_of : ErrorCode → List ℕ
text_of ParseError = codes "Parse error"
text_of InvalidRequest = codes "Invalid Request"
text_of MethodNotFound = codes "Method not found"
text_of InvalidParams = codes "Invalid params"
text_of ServerNotInitialized = codes "Server not initialized"
text_of RequestFailed = codes "Request failed"
