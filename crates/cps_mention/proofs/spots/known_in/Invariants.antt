use Rattle.std.proofs.Common.{◌≡◌, ◌++◌, drop}
use Rattle.cps_mention.specs.Spots.{known}
use Rattle.cps_mention.proofs.spots.known_in.Given as goal

abbrev pub invariant-loop-spot : goal.invariant-loop-spot
invariant-loop-spot l = l.known.items ++ known l.from (drop l.spot-index l.found) ≡ known l.from l.found
