use Rattle.std.proofs.Common.{◌≡◌, ◌++◌, length}
use Rattle.cps_input.specs.Shown.{shown}
use Rattle.cps_input.proofs.shown.push_shown.Given as goal

abbrev pub invariant-loop-rest : goal.invariant-loop-rest
invariant-loop-rest l = l.text.items ++ shown l.rest ≡ l.fn.text.items ++ shown l.line

abbrev pub decreases-loop-rest : goal.decreases-loop-rest
decreases-loop-rest l = length l.rest
