use Rattle.std.proofs.Common.{take}
use Rattle.cps_chunk.specs.Code.Storing.{StoresAlso}
use Rattle.cps_chunk.proofs.storing.store_all.Given as goal

abbrev pub invariant-loop-trace : goal.invariant-loop-trace
invariant-loop-trace l = StoresAlso l.initial.storage l.storage (take l.trace-index l.traces)
