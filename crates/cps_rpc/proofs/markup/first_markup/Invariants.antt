use Rattle.std.proofs.Common.{◌≡◌, drop, map}
use Rattle.serde_json.specs.View.{view}
use Rattle.cps_rpc.specs.Params as params
use Rattle.cps_rpc.proofs.markup.first_markup.Given as goal

-- none of the values so far names a form
abbrev pub invariant-loop-name : goal.invariant-loop-name
invariant-loop-name l = params.first_markup (map view (drop l.name-index l.names)) ≡ params.first_markup (map view l.names)
