use Rattle.std.proofs.Common.{take}
use Rattle.cps_final.specs.Layout.{puts_of}
use Rattle.cps_server.specs.Completions.{macros_put}
use Rattle.cps_server.specs.Code.Telling.{InsertsNames}
use Rattle.cps_server.proofs.names.insert_macros.Given as goal

abbrev pub invariant-loop-trace : goal.invariant-loop-trace
invariant-loop-trace l = InsertsNames (macros_put (puts_of (take l.trace-index l.traces))) l.fn.names.keys l.names.keys
