use Rattle.std.proofs.Common.{take}
use Rattle.cps_server.specs.Completions.{others_than}
use Rattle.cps_server.specs.Code.Telling.{InsertsNames}
use Rattle.cps_server.proofs.names.insert_missing.Given as goal

abbrev pub invariant-loop-mention : goal.invariant-loop-mention
invariant-loop-mention l = InsertsNames (others_than l.others.keys (take l.mention-index l.mentions)) l.fn.names.keys l.names.keys
