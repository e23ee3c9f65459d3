use Rattle.std.proofs.Common.{◌≡◌, ◌+◌, drop, reverse}
use Rattle.cps_chunk.specs.Staying.{same_front}
use Rattle.cps_chunk.proofs.staying.count_back.Given as goal

abbrev pub invariant-loop-i : goal.invariant-loop-i
invariant-loop-i l = l.i + same_front l.left (drop l.i (reverse l.olds)) (drop l.i (reverse l.news)) ≡ same_front l.lines (reverse l.olds) (reverse l.news)
