use Rattle.std.proofs.Common.{map, take}
use Rattle.cps_check.specs.Code.Adding.{Adds}
use Rattle.cps_check.specs.Reports.{fault_report}
use Rattle.cps_check.proofs.told_line.ToldLine.push_faults.Given as goal

abbrev pub invariant-loop-fault : goal.invariant-loop-fault
invariant-loop-fault l =
    Adds l.self.name.now (map (fault_report l.self.number l.self.line.now) (take l.fault-index l.faults)) l.fn.text.items l.text.items
