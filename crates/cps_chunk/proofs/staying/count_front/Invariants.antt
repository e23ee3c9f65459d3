use Rattle.std.proofs.Common.{◌≡◌, ◌+◌, drop}
use Rattle.cps_chunk.specs.Staying.{same_front}
use Rattle.cps_chunk.proofs.staying.count_front.Given as goal

abbrev pub invariant-loop-i : goal.invariant-loop-i
invariant-loop-i l = l.i + same_front l.left (drop l.i l.olds) (drop l.i l.news) ≡ same_front l.lines l.olds l.news
