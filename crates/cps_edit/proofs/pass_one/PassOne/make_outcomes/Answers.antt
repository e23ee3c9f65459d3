use Rattle.std.proofs.Common.{◌≡◌, List, subst}
use Rattle.std.specs.Prelude.{IfOk}
use Rattle.cps_state.specs.Course.{Trace}
use Rattle.cps_final.specs.Finals.{Finals}
use Rattle.cps_final.specs.contracts.finals.FinalsGathered.TheImpl.{gathered-value}
use Rattle.cps_edit.specs.Assembly.{outcomes_under}
use Rattle.cps_edit.proofs.pass_one.PassOne.make_outcomes.Goals as goal

pub returns-clause-outcomes : goal.returns-clause-outcomes
returns-clause-outcomes c =
    let finals = gathered-value.it c.finals.result.now in
    subst (λ (finals : Finals). IfOk c.step_two_all.result (λ made. made.items ≡ outcomes_under finals c.args.self.now)) c.finals.ensures
    (subst (λ (traces : List Trace). IfOk c.step_two_all.result (λ made. made.items ≡ outcomes_under finals traces)) c.traces.ensures c.step_two_all.ensures.outcomes)
