use Rattle.std.proofs.Common.{map, take}
use Rattle.cps_final.specs.contracts.finals.FinalsGathered.TheImpl.{gathered-value}
use Rattle.cps_edit.specs.Assembly.{outcomes_under}
use Rattle.cps_check.specs.Code.Adding.{AddsLines}
use Rattle.cps_check.proofs.line_telling.LineTelling.tell_lines.Given as goal

abbrev pub invariant-loop-at : goal.invariant-loop-at
invariant-loop-at l =
    AddsLines l.self.errors_only l.self.name.now (take l.at (map (λ line. line.now) l.lines)) (outcomes_under (gathered-value.it l.self.finals.now) (take l.at l.traces))
    l.is_wrong l.fn.text.items l.text.items
