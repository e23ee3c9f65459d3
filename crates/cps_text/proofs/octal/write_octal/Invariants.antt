use Rattle.std.proofs.Common.{◌≡◌, ◌≤◌, ◌++◌, length, drop}
use Rattle.cps_text.specs.Octal.{octal}
use Rattle.cps_text.proofs.octal.write_octal.Given as goal

pub record AreWritten (l : goal.Live-loop-place) : Type 0 where
  pub long : length l.text ≡ length l.fn.text
  pub within : l.place ≤ length l.text
  pub digits : octal l.place l.rest ++ drop l.place l.text ≡ octal (length l.fn.text) l.fn.number

abbrev pub invariant-loop-place : goal.invariant-loop-place
invariant-loop-place l = AreWritten l

abbrev pub decreases-loop-place : goal.decreases-loop-place
decreases-loop-place l = l.place
