use Rattle.std.proofs.Common.{◌≡◌, drop, map}
use Rattle.std.specs.List.{list_any}
use Rattle.serde_json.specs.View.{view}
use Rattle.cps_rpc.specs.Params as params
use Rattle.cps_rpc.proofs.encodings.offers_utf8.Given as goal

abbrev pub invariant-loop-name : goal.invariant-loop-name
invariant-loop-name l = list_any params.is_utf8 (map view (drop l.name-index l.names)) ≡ list_any params.is_utf8 (map view l.names)
