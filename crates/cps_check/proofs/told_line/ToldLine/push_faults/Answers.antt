use Rattle.std.proofs.Common.{List, map, subst}
use Rattle.std.proofs.lemmas.List.{take_all}
use Rattle.cps_input.specs.declared.character_fault.CharacterFault.{CharacterFault}
use Rattle.cps_check.specs.Code.Adding.{Adds}
use Rattle.cps_check.specs.Reports.{fault_report}
use Rattle.cps_check.proofs.TextLemmas.{Adds-next, Adds-none}
use Rattle.cps_check.proofs.told_line.ToldLine.push_faults.Goals as goal

pub loop-fault-init : goal.loop-fault-init
loop-fault-init c = Adds-none c.args.self.now.name.now c.args.text.now.items

pub loop-fault-preserved : goal.loop-fault-preserved
loop-fault-preserved c =
    Adds-next c.args.self.now.name.now (fault_report c.args.self.now.number c.args.self.now.line.now) c.args.faults.now c.loop-fault.fault-index _
    c.args.text.now.items c.loop-fault.text.items c.push_fault.new.text.items c.loop-fault-test.true c.loop-fault.invariant c.in_ok-push_fault.ensures

pub returns : goal.returns
returns c =
    let report = fault_report c.args.self.now.number c.args.self.now.line.now in
    subst (λ (ds : List CharacterFault). Adds c.args.self.now.name.now (map report ds) c.args.text.now.items c.loop-fault.text.items)
    (take_all c.loop-fault.fault-index c.args.faults.now c.loop-fault-test.false) c.loop-fault.invariant
