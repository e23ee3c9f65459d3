use Rattle.std.proofs.Common.{◌≡◌, ◌≤◌, drop}
use Rattle.std.specs.List.{fold}
use Rattle.cps_text.specs.Arguments.{depth_behind}
use Rattle.cps_text.proofs.argument.depth_of.Given as goal

abbrev pub invariant-loop-byte : goal.invariant-loop-byte
invariant-loop-byte l = (fold depth_behind l.depth (drop l.byte-index l.text) ≡ fold depth_behind 0 l.text) × (l.depth ≤ l.byte-index)
