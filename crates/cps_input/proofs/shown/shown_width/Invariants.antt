use Rattle.std.proofs.Common.{◌≡◌, ◌+◌, ◌≤◌, length}
use Rattle.cps_input.specs.Shown.{shown_width}
use Rattle.cps_input.proofs.shown.shown_width.Given as goal

pub record AreCounted (l : goal.Live-loop-rest) : Type 0 where
  pub counted : l.width + shown_width l.rest ≡ shown_width l.line
  pub few : l.width + length l.rest ≤ length l.line

abbrev pub invariant-loop-rest : goal.invariant-loop-rest
invariant-loop-rest l = AreCounted l

abbrev pub decreases-loop-rest : goal.decreases-loop-rest
decreases-loop-rest l = length l.rest
