use Rattle.std.proofs.Common.{ap, ◌∙◌}
use Rattle.cps_state.specs.Course.{Trace}
use Rattle.cps_state.specs.Code.Scratch.{Scratch}
use Rattle.cps_edit.specs.Assembly.{traces_of}
use Rattle.cps_batch.proofs.PassLemmas.{gathered-next}
use Rattle.cps_batch.proofs.passes.Again.take_line.Goals as goal

pub returns-clause-gathered : goal.returns-clause-gathered
returns-clause-gathered c = λ lines gathers.
    gathered-next _ lines c.args.line.now _ _ (c.in_ok-step_next.ensures lines gathers) (c.in_ok-take.ensures.ok (traces_of lines) gathers)

pub returns-clause-shown : goal.returns-clause-shown
returns-clause-shown c = λ lines gathers so at.
    let next = c.in_ok-step_next.ensures lines gathers in
    let items = c.items.ensures ∙ ap (λ (scratch : Scratch). scratch.line.items) c.in_ok-take.ensures.scratch ∙ ap (λ (t : Trace). t.items) next.stands.line in
    c.in_ok-add.ensures.shown lines (next.trace, next.traces, items) so at
