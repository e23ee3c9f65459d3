use Rattle.std.proofs.Common.{◌≡◌, ◌-◌, drop, length}
use Rattle.cps_mention.proofs.line_edit.same_at_back.Given as goal

abbrev pub invariant-loop-done : goal.invariant-loop-done
invariant-loop-done l = drop (length l.is - l.done) l.is ≡ drop (length l.was - l.done) l.was
