use Rattle.std.proofs.Common.{◌≡◌, drop, map}
use Rattle.std.specs.List.{list_any}
use Rattle.serde_json.specs.View.{view}
use Rattle.cps_rpc.specs.Client as clients
use Rattle.cps_rpc.proofs.client.has_unnecessary.Given as goal

abbrev pub invariant-loop-tag : goal.invariant-loop-tag
invariant-loop-tag l = list_any clients.is_unnecessary (map view (drop l.tag-index l.tags)) ≡ list_any clients.is_unnecessary (map view l.tags)
