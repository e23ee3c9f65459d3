use Rattle.std.proofs.Common.{map, take}
use Rattle.cps_server.specs.Code.Keeping.{Shows, flag_shown}
use Rattle.cps_server.proofs.line_marks.push_causes.Given as goal

abbrev pub invariant-loop-diagnostic : goal.invariant-loop-diagnostic
invariant-loop-diagnostic l = Shows (map flag_shown (take l.diagnostic-index l.told)) l.fn.marks.items l.marks.items
