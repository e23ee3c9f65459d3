use Rattle.std.proofs.Common.{◌≡◌, map, take}
use Rattle.cps_mention.specs.SameBut.{untexted}
use Rattle.cps_mention.proofs.same_but.are_same_rows.Given as goal

abbrev pub invariant-loop-at : goal.invariant-loop-at
invariant-loop-at l = map untexted (take l.at l.is) ≡ map untexted (take l.at l.was)
