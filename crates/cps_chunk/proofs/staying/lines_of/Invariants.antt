use Rattle.std.proofs.Common.{◌≡◌, take}
use Rattle.std.specs.Prelude.{sum}
use Rattle.cps_chunk.proofs.staying.lines_of.Given as goal

abbrev pub invariant-loop-length : goal.invariant-loop-length
invariant-loop-length l = l.lines ≡ sum (take l.length-index l.lengths)
