-- Where a server stands. From the Language Server Protocol 3.17; what is agreed on before `initialize` is our own.
use Rattle.std.specs.Prelude.{ℕ, ℤ, Bool, true, false, not, List, [], ◌∷◌, ◌++◌, Option, Some, None, bytes_eq, filter, option_and_then, option_map, if◌then◌else◌}
use Rattle.cps_rpc.specs.declared.encoding.Encoding.{Encoding}
use Rattle.cps_rpc.specs.declared.encoding.Encoding.TheVariants.{Utf16}
use Rattle.cps_rpc.specs.declared.client.Client.{Client}
use Rattle.cps_rpc.specs.Client.{unknown}
use Rattle.cps_server.specs.declared.server_phase.ServerPhase.{ServerPhase}
use Rattle.cps_server.specs.declared.server_phase.ServerPhase.TheVariants.{Uninitialized, Running, ShutDown}

-- ---- texts

-- A text that is open, under the URI of its document, of this version if it is known.
pub record OpenText : Type 0 where
  pub uri : List ℕ
  pub version : Option ℤ
  pub text : List ℕ

abbrev pub is_under : List ℕ → OpenText → Bool
is_under uri one = bytes_eq one.uri uri

-- what is open under a URI
abbrev pub open_under : List ℕ → List OpenText → Option OpenText
open_under uri [] = None
open_under uri (one ∷ texts) = if is_under uri one then Some one else open_under uri texts

-- the text under a URI
abbrev pub text_under : List ℕ → List OpenText → Option (List ℕ)
text_under uri texts = option_map (λ one. one.text) (open_under uri texts)

-- its version
abbrev pub version_under : List ℕ → List OpenText → Option ℤ
version_under uri texts = option_and_then (λ one. one.version) (open_under uri texts)

-- all texts but that under a URI
abbrev pub without : List ℕ → List OpenText → List OpenText
without uri texts = filter (λ one. not (is_under uri one)) texts

-- all texts, and this one in the place of another under its URI
abbrev pub with_text : OpenText → List OpenText → List OpenText
with_text one texts = without one.uri texts ++ one ∷ []

-- ---- the server

-- Where a server stands: its phase, whether `exit` has come, how positions are counted, what the editor takes, and the open texts, those last that were opened or changed last.
pub record ServerState : Type 0 where
  pub phase : ServerPhase
  pub has_exited : Bool
  pub encoding : Encoding
  pub client : Client
  pub texts : List OpenText

-- before the first message
abbrev pub beginning : ServerState
beginning = record { phase = Uninitialized; has_exited = false; encoding = Utf16; client = unknown; texts = [] }

-- whether `shutdown` has come
abbrev pub is_shut_down : ServerPhase → Bool
is_shut_down Uninitialized = false
is_shut_down Running = false
is_shut_down ShutDown = true
