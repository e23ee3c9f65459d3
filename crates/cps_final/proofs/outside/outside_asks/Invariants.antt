use Rattle.std.proofs.Common.{take}
use Rattle.cps_final.specs.Run.{run_of}
use Rattle.cps_final.specs.Code.RunGathering.{IsOutside}
use Rattle.cps_final.proofs.outside.outside_asks.Given as goal

abbrev pub invariant-loop-trace : goal.invariant-loop-trace
invariant-loop-trace l = IsOutside l.outside (run_of (take l.trace-index l.traces))
