use Rattle.std.proofs.Common.{◌≡◌, sym, subst, ◌∙◌}
use Rattle.std.proofs.lemmas.Result.{IfOk-weaker}
use Rattle.cps_state.specs.Course.{stop, Trace, Holds}
use Rattle.cps_state.specs.Keys.{State}
use Rattle.cps_pass.specs.Bounded.{AreFew, EachOnce}
use Rattle.cps_pass.specs.Expansion.{line_part, trace_of}
use Rattle.cps_pass.proofs.FewLemmas.{items-few}
use Rattle.cps_pass.proofs.OnceLemmas.{asks-once}
use Rattle.cps_pass.proofs.StepLemmas.{trace-same}
use Rattle.cps_pass.proofs.step.step_one.Goals as goal

pub returns-clause-asks_alone : goal.returns-clause-asks_alone
returns-clause-asks_alone g c =
    let line = c.args.line.now in
    let f = g.L.Lookup.answer c.args.state.now in
    IfOk-weaker c.step_over.result (λ (trace : Trace). trace ≡ trace_of line f) (λ (trace : Trace). (other : State) → Holds trace.asks other → trace ≡ trace_of line other)
    (λ trace is other held. is ∙ sym (trace-same (line_part line stop) f other (subst (λ (t : Trace). Holds t.asks other) is held))) c.step_over.ensures.trace

pub returns-clause-few : goal.returns-clause-few
returns-clause-few g c =
    let line = c.args.line.now in
    let f = g.L.Lookup.answer c.args.state.now in
    IfOk-weaker c.step_over.result (λ (trace : Trace). trace ≡ trace_of line f) (λ (trace : Trace). AreFew trace.items)
    (λ trace is. subst (λ (t : Trace). AreFew t.items) (sym is) (items-few (line_part line stop) f)) c.step_over.ensures.trace

pub returns-clause-once : goal.returns-clause-once
returns-clause-once g c =
    let line = c.args.line.now in
    let f = g.L.Lookup.answer c.args.state.now in
    IfOk-weaker c.step_over.result (λ (trace : Trace). trace ≡ trace_of line f) (λ (trace : Trace). EachOnce trace.asks)
    (λ trace is. subst (λ (t : Trace). EachOnce t.asks) (sym is) (asks-once (line_part line stop) f)) c.step_over.ensures.trace
