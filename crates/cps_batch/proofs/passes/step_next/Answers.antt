use Rattle.std.proofs.Common.{refl}
use Rattle.std.proofs.lemmas.Result.{on_ok_weaker}
use Rattle.cps_final.specs.contracts.finals.FinalsGathered.TheImpl.{gathered-value}
use Rattle.cps_batch.proofs.PassLemmas.{step-next}
use Rattle.cps_batch.proofs.passes.step_next.Goals as goal

pub returns : goal.returns
returns c =
    on_ok_weaker c.step_unasked.result
    (λ stands before gathers. record {
      trace = _;
      stands = stands;
      traces = step-next (gathered-value.it c.args.gather.now) before c.args.line.now _ _ gathers c.state.ensures refl;
    })
    c.step_unasked.ensures.line
