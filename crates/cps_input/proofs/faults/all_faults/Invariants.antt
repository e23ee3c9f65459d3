use Rattle.std.proofs.Common.{◌-◌, ◌≤◌, length}
use Rattle.cps_input.specs.Faults.{AreAll}
use Rattle.cps_input.proofs.faults.all_faults.Given as goal

pub record AreSoFar (l : goal.Live-loop-at) : Type 0 where
  pub within : l.at ≤ length l.line
  pub all : AreAll l.number l.line 0 l.faults.items l.at

abbrev pub invariant-loop-at : goal.invariant-loop-at
invariant-loop-at l = AreSoFar l

abbrev pub decreases-loop-at : goal.decreases-loop-at
decreases-loop-at l = length l.line - l.at
