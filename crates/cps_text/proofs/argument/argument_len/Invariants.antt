use Rattle.std.proofs.Common.{◌≡◌, ◌+◌, ◌≤◌, drop}
use Rattle.cps_text.specs.Arguments.{length_at}
use Rattle.cps_text.proofs.argument.argument_len.Given as goal

abbrev pub invariant-loop-i : goal.invariant-loop-i
invariant-loop-i l = (l.i + length_at l.depth (drop l.i l.text) ≡ length_at 0 l.text) × (l.depth ≤ l.i)
