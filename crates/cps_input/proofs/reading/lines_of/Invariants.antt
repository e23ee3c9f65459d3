use Rattle.std.proofs.Common.{◌≡◌, take}
use Rattle.cps_input.proofs.reading.lines_of.Given as goal

abbrev pub invariant-loop-before : goal.invariant-loop-before
invariant-loop-before l = l.lines.items ≡ take l.before l.text
