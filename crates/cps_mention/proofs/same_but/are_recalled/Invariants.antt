use Rattle.std.proofs.Common.{◌≡◌, map, take}
use Rattle.cps_mention.specs.SameBut.{recalled}
use Rattle.cps_mention.proofs.same_but.are_recalled.Given as goal

abbrev pub invariant-loop-at : goal.invariant-loop-at
invariant-loop-at l = take l.at l.is ≡ map (recalled l.calling) (take l.at l.was)
