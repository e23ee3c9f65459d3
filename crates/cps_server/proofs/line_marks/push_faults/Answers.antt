use Rattle.std.proofs.Common.{List, map, subst}
use Rattle.std.proofs.lemmas.List.{take_all}
use Rattle.cps_input.specs.declared.character_fault.CharacterFault.{CharacterFault}
use Rattle.cps_server.specs.Code.Keeping.{Shows, fault_shown}
use Rattle.cps_server.proofs.ShownLemmas.{Shows-next, Shows-none}
use Rattle.cps_server.proofs.line_marks.push_faults.Goals as goal

pub loop-fault-init : goal.loop-fault-init
loop-fault-init c = Shows-none c.args.marks.now.items

pub loop-fault-preserved : goal.loop-fault-preserved
loop-fault-preserved c =
    Shows-next fault_shown c.args.faults.now c.loop-fault.fault-index _
    c.args.marks.now.items c.loop-fault.marks.items c.push_fault.new.marks.items c.loop-fault-test.true c.loop-fault.invariant c.in_ok-push_fault.ensures

pub returns : goal.returns
returns c =
    subst (λ (fs : List CharacterFault). Shows (map fault_shown fs) c.args.marks.now.items c.loop-fault.marks.items)
    (take_all c.loop-fault.fault-index c.args.faults.now c.loop-fault-test.false) c.loop-fault.invariant
