use Rattle.std.proofs.Common.{◌≡◌, map, take}
use Rattle.serde_json.specs.View.{view}
use Rattle.cps_server.specs.Foldings.{folding_json}
use Rattle.cps_server.proofs.folding.tell_each.Given as goal

abbrev pub invariant-loop-folding : goal.invariant-loop-folding
invariant-loop-folding l = map view l.told.items ≡ map folding_json (take l.folding-index l.foldings)
