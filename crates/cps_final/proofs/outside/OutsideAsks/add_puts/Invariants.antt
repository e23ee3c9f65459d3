use Rattle.std.proofs.Common.{◌++◌, take}
use Rattle.cps_final.specs.Run.{Run}
use Rattle.cps_final.specs.Code.RunGathering.{IsOutside}
use Rattle.cps_final.proofs.outside.OutsideAsks.add_puts.Given as goal

abbrev pub invariant-loop-put : goal.invariant-loop-put
invariant-loop-put l = (run : Run) → IsOutside l.fn.self run → IsOutside l.self (record run { puts = run.puts ++ take l.put-index l.puts })
