use Rattle.std.proofs.Common.{List, subst, sym}
use Rattle.cps_state.specs.Course.{Trace}
use Rattle.cps_final.specs.Finals.{Gathers}
use Rattle.cps_final.specs.contracts.finals.FinalsGathered.TheImpl.{gathered-value}
use Rattle.cps_edit.specs.Passes.{traces_of}
use Rattle.cps_edit.proofs.PassOneLemmas.{step-next}
use Rattle.cps_edit.proofs.pass_one.step_next.Goals as goal

pub returns-clause-trace : goal.returns-clause-trace
returns-clause-trace c = λ before gathers.
    let more = step-next (gathered-value.it c.args.gather.now) before c.args.line.now c.in_ok-trace.trace _ gathers c.state.ensures c.in_ok-trace.ensures.trace in
    (more, subst (λ (traces : List Trace). Gathers (gathered-value.it c.add.new.self) traces) (sym more) (c.in_ok-add.ensures.ok (traces_of before) gathers))
