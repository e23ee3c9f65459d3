use Rattle.std.proofs.Common.{◌≡◌, ◌++◌, drop}
use Rattle.cps_mention.specs.Spots.{spots_as}
use Rattle.cps_mention.proofs.spots.push_stretches.Given as goal

abbrev pub invariant-loop-stretch : goal.invariant-loop-stretch
invariant-loop-stretch l = l.said.items ++ spots_as l.kind (drop l.stretch-index l.stretches) ≡ l.fn.said.items ++ spots_as l.kind l.stretches
