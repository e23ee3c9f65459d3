use Rattle.std.proofs.Common.{◌≡◌, ◌-◌, ◌≤◌, length}
use Rattle.cps_server.specs.Code.Keeping.{KeepsFrom}
use Rattle.cps_server.proofs.marked_document.marks_between.Given as goal

-- so far the lines up to this one have their marks
pub record IsSoFar (l : goal.Live-loop-number) : Type 0 where
  pub behind : l.first ≤ l.number
  pub count : length l.lines.items ≡ l.number - l.first
  pub each : KeepsFrom l.document l.first l.lines.items

abbrev pub invariant-loop-number : goal.invariant-loop-number
invariant-loop-number l = IsSoFar l
