use Rattle.std.proofs.Common.{◌++◌, [], ◌∷◌, List, ℕ, take, sym, ap, ◌∙◌}
use Rattle.std.proofs.lemmas.List.{take_all}
use Rattle.cps_state.specs.Course.{Trace}
use Rattle.cps_state.specs.Work.{Counts}
use Rattle.cps_final.specs.Finals.{finals_of}
use Rattle.cps_edit.specs.Passes.{traces_of}
use Rattle.cps_edit.proofs.PassOneLemmas.{front-next, one-more}
use Rattle.cps_edit.proofs.pass_one.step_all.Goals as goal

pub loop-line-preserved : goal.loop-line-preserved
loop-line-preserved c =
    let lines = c.args.lines.now in
    let i = c.loop-line.line-index in
    let was = c.loop-line.invariant in
    let step = c.in_ok-trace.ensures.trace (take i lines) was.gathered in
    let next = front-next lines i c.line-item.result c.loop-line-test.true c.line-item.is in
    record {
      traces = c.in_ok-push.ensures.items ∙ ap (λ (l : List Trace). l ++ c.in_ok-trace.trace ∷ []) was.traces ∙ sym step.0 ∙ ap traces_of next;
      gathered = step.1 ∙ ap (λ (ls : List (List ℕ)). finals_of (traces_of ls)) next;
      ones = one-more c.args.work.now.ones c.loop-line.work.ones c.step_next.new.work.ones i was.ones (ap (λ (w : Counts). w.ones) c.step_next.ensures.step);
      twos = ap (λ (w : Counts). w.twos) c.step_next.ensures.step ∙ was.twos;
      looked = ap (λ (w : Counts). w.looked) c.step_next.ensures.step ∙ was.looked;
    }

pub returns-clause-gathered : goal.returns-clause-gathered
returns-clause-gathered c =
    c.loop-line.invariant.gathered ∙ ap (λ (ls : List (List ℕ)). finals_of (traces_of ls)) (take_all c.loop-line.line-index c.args.lines.now c.loop-line-test.false)
