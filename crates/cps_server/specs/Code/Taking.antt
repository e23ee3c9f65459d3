-- For the code, not part of what a reader believes: what is told of a text, by a name and a version.
use Rattle.std.specs.Prelude.{ℕ, List}
use Rattle.serde_json.specs.Data.{Data}
use Rattle.cps_rpc.specs.Params.{Change}
use Rattle.cps_server.specs.declared.diagnostics.ToldText.{ToldText}
use Rattle.cps_server.specs.Notices.{ChangesUnder, TakesText}
use Rattle.cps_server.specs.ServerState.{ServerState}

-- a text is open under this name, and its marks are told
abbrev pub Takes : ToldText → List ℕ → ServerState → List Data → ServerState → Type 0
Takes told text old said new = TakesText old told.uri.now told.version text said new

-- the text under this name is changed, if one is open there
abbrev pub Changes : ToldText → List Change → ServerState → List Data → ServerState → Type 0
Changes told changes old said new = ChangesUnder told.uri.now told.version changes old said new
