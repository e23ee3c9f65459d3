use Rattle.std.proofs.Common.{◌≡◌, take}
use Rattle.cps_mention.proofs.line_edit.same_in_front.Given as goal

abbrev pub invariant-loop-at : goal.invariant-loop-at
invariant-loop-at l = take l.at l.is ≡ take l.at l.was
