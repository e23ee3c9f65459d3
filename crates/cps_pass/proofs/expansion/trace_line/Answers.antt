use Rattle.std.proofs.Common.{◌≡◌, Bool, subst}
use Rattle.std.specs.Prelude.{IfOk}
use Rattle.cps_state.specs.Course.{Running, stop, traced}
use Rattle.cps_state.specs.Code.Line.{runs}
use Rattle.cps_state.specs.Code.Scratch.{statements_on}
use Rattle.cps_pass.specs.Expansion.{line_part}
use Rattle.cps_pass.proofs.WalkLemmas.{done-is}
use Rattle.cps_pass.proofs.expansion.trace_line.Goals as goal

pub returns : goal.returns
returns g c =
    let f = g.L.Lookup.answer in
    let line = line_part c.args.line.now stop in
    let done = c.go_through_line.new.recorder in
    let complete = c.in_ok-complete.complete in
    let runs = subst (λ s. runs line f s ≡ (done, complete)) c.new-recorder.ensures c.in_ok-complete.ensures in
    subst (λ (p : Running × Bool). IfOk c.into_trace.result (λ trace. trace ≡ traced p)) (done-is line f (statements_on c.args.scratch.now) c.args.state.now done complete runs) c.into_trace.ensures
