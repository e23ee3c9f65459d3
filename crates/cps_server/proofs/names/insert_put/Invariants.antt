use Rattle.std.proofs.Common.{take}
use Rattle.cps_server.specs.Completions.{macros_put}
use Rattle.cps_server.specs.Code.Telling.{InsertsNames}
use Rattle.cps_server.proofs.names.insert_put.Given as goal

abbrev pub invariant-loop-put : goal.invariant-loop-put
invariant-loop-put l = InsertsNames (macros_put (take l.put-index l.puts)) l.fn.names.keys l.names.keys
