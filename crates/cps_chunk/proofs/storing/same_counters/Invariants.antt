use Rattle.std.proofs.Common.{◌≡◌, take}
use Rattle.cps_chunk.specs.Code.Storing.{counters_in}
use Rattle.cps_chunk.proofs.storing.same_counters.Given as goal

abbrev pub invariant-loop-i : goal.invariant-loop-i
invariant-loop-i l = counters_in (take l.i l.olds) ≡ counters_in (take l.i l.news)
