use Rattle.std.proofs.Common.{map, take}
use Rattle.cps_server.specs.Code.Telling.{InsertsNames}
use Rattle.cps_server.proofs.names.insert_names.Given as goal

abbrev pub invariant-loop-mention : goal.invariant-loop-mention
invariant-loop-mention l = InsertsNames (map (λ mention. mention.name) (take l.mention-index l.mentions)) l.fn.names.keys l.names.keys
