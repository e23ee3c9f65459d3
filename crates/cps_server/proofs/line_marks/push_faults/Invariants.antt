use Rattle.std.proofs.Common.{map, take}
use Rattle.cps_server.specs.Code.Keeping.{Shows, fault_shown}
use Rattle.cps_server.proofs.line_marks.push_faults.Given as goal

abbrev pub invariant-loop-fault : goal.invariant-loop-fault
invariant-loop-fault l = Shows (map fault_shown (take l.fault-index l.faults)) l.fn.marks.items l.marks.items
