use Rattle.std.proofs.Common.{◌≡◌, ◌++◌, drop}
use Rattle.cps_text.specs.Insertion.{without_marks}
use Rattle.cps_text.proofs.insertion.push_without_marks.Given as goal

abbrev pub invariant-loop-byte : goal.invariant-loop-byte
invariant-loop-byte l = l.text.items ++ without_marks (drop l.byte-index l.run) ≡ l.initial.text.items ++ without_marks l.run
