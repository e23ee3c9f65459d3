-- For the code, not part of what a reader believes: what is told of a server's providers.
use Rattle.std.specs.Prelude.{ℕ, true, List, codes}
use Rattle.serde_json.specs.Data.{Data, boolean, string, object, no_members, member}
use Rattle.serde_json.specs.View.{view}
use Rattle.cps_server.specs.declared.introducing.LaterProviders.{LaterProviders}
use Rattle.cps_server.specs.declared.introducing.Providers.{Providers}
use Rattle.cps_server.specs.Requests.{capabilities_of}

abbrev pub capabilities_by : List ℕ → Providers → Data
capabilities_by positions providers =
    capabilities_of positions (view providers.mendings) (view providers.names) (view providers.words) (view providers.operands) (view providers.texts)

-- of those behind `foldingRangeProvider`
abbrev pub later_by : List ℕ → LaterProviders → Data
later_by positions providers = object (member (codes "hoverProvider") (boolean true) (member (codes "inlayHintProvider") (boolean true)
    (member (codes "positionEncoding") (string positions) (member (codes "referencesProvider") (boolean true)
    (member (codes "renameProvider") (view providers.names) (member (codes "semanticTokensProvider") (view providers.words)
    (member (codes "signatureHelpProvider") (view providers.operands) (member (codes "textDocumentSync") (view providers.texts) no_members))))))))
