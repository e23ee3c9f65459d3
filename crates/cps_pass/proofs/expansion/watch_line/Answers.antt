use Rattle.std.proofs.Common.{◌≡◌, Bool, ap, subst, ◌∙◌}
use Rattle.std.proofs.lemmas.Result.{on_ok_weaker}
use Rattle.cps_state.specs.Course.{Running, stop, traced, unasked}
use Rattle.cps_state.specs.Code.Line.{runs}
use Rattle.cps_state.specs.Code.Scratch.{statements_on}
use Rattle.cps_pass.specs.Expansion.{line_part}
use Rattle.cps_pass.proofs.WalkLemmas.{before-stays, done-is}
use Rattle.cps_pass.proofs.expansion.watch_line.Goals as goal

pub returns : goal.returns
returns g c =
    let f = g.L.Lookup.answer in
    let line = line_part c.args.line.now stop in
    let context = statements_on c.args.scratch.now in
    let done = c.go_through_line.new.recorder in
    let complete = c.in_ok-complete.complete in
    let runs = subst (λ s. runs line f s ≡ (done, complete)) c.new-recorder.ensures c.in_ok-complete.ensures in
    on_ok_weaker c.write.result
    (λ stands. record {
      before = stands.before ∙ before-stays line f context c.args.state.now done complete runs;
      line = stands.line ∙ ap (λ (p : Running × Bool). unasked (traced p)) (done-is line f context c.args.state.now done complete runs);
    })
    c.write.ensures.line
