use Rattle.std.proofs.Common.{map, take}
use Rattle.cps_check.specs.Code.Adding.{Adds}
use Rattle.cps_check.specs.Reports.{flag_report}
use Rattle.cps_check.proofs.told_line.ToldLine.push_flags.Given as goal

abbrev pub invariant-loop-diagnostic : goal.invariant-loop-diagnostic
invariant-loop-diagnostic g l =
    Adds l.self.name.now (map (flag_report l.self.number l.self.line.now) (take l.diagnostic-index l.told)) l.fn.text.items l.text.items
