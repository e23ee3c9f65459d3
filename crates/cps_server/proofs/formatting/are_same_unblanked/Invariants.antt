use Rattle.std.proofs.Common.{◌≡◌, map, take}
use Rattle.cps_server.specs.Code.Spacing.{unblanked_text}
use Rattle.cps_server.proofs.formatting.are_same_unblanked.Given as goal

abbrev pub invariant-loop-at : goal.invariant-loop-at
invariant-loop-at l = map unblanked_text (take l.at l.is) ≡ map unblanked_text (take l.at l.was)
