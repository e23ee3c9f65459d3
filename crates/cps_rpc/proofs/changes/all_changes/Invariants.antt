use Rattle.std.proofs.Common.{◌≡◌, ◌++◌, drop, map, option_map}
use Rattle.serde_json.specs.View.{view}
use Rattle.cps_rpc.specs.Params as params
use Rattle.cps_rpc.proofs.changes.all_changes.Given as goal

-- what is told of all is what stands so far, and what is told of the rest behind it
abbrev pub invariant-loop-item : goal.invariant-loop-item
invariant-loop-item l =
    params.all_changes (map view l.items)
    ≡ option_map (λ rest. map params.value_of l.changes.items ++ rest) (params.all_changes (map view (drop l.item-index l.items)))
