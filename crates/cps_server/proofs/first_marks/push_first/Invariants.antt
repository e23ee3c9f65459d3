use Rattle.std.proofs.Common.{map, take}
use Rattle.cps_server.specs.Code.Adding.{Adds, mark_at}
use Rattle.cps_server.proofs.first_marks.push_first.Given as goal

abbrev pub invariant-loop-mark : goal.invariant-loop-mark
invariant-loop-mark l = Adds (map (mark_at l.number) (take l.mark-index l.marks)) l.fn.first.items l.first.items
