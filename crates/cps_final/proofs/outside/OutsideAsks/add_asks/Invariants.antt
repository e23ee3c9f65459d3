use Rattle.std.proofs.Common.{take}
use Rattle.cps_final.specs.Run.{Run, with_asks}
use Rattle.cps_final.specs.Code.RunGathering.{IsOutside}
use Rattle.cps_final.proofs.outside.OutsideAsks.add_asks.Given as goal

abbrev pub invariant-loop-asked : goal.invariant-loop-asked
invariant-loop-asked l = (run : Run) → IsOutside l.fn.self run → IsOutside l.self (record run { asks = with_asks run.puts run.asks (take l.asked-index l.asks) })
