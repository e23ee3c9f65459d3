use Rattle.std.proofs.Common.{◌≡◌, ◌+◌, ◌≤◌, drop}
use Rattle.cps_text.specs.Arguments.{are_inside, depths}
use Rattle.cps_text.proofs.argument.is_inside.Given as goal

abbrev pub invariant-loop-byte : goal.invariant-loop-byte
invariant-loop-byte l = (are_inside (depths l.depth (drop l.byte-index l.text)) ≡ are_inside (depths l.begun l.text)) × (l.depth ≤ l.byte-index + 1)
