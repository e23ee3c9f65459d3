use Rattle.std.proofs.Common.{All, Contains, take}
use Rattle.cps_mention.specs.Spots.{AreSpots}
use Rattle.cps_mention.specs.Code.Finding.{IsFound}
use Rattle.cps_mention.proofs.spots.each_once.Given as goal

abbrev pub invariant-loop-spot : goal.invariant-loop-spot
invariant-loop-spot l = All (Contains l.said) l.found.items × All (IsFound l.found.items) (take l.spot-index l.said)
