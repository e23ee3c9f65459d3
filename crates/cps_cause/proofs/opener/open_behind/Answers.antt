use Rattle.std.proofs.Common.{List, take, ap, subst, ◌∙◌}
use Rattle.cps_state.specs.Course.{Trace}
use Rattle.cps_state.specs.declared.key.Put.{Put}
use Rattle.cps_state.specs.Keys.{State, first_state, overwritten}
use Rattle.cps_final.specs.Layout.{puts_of}
use Rattle.cps_cause.specs.Code.OpenNow.{IsOpenNow}
use Rattle.cps_cause.proofs.OpenerLemmas.{line-behind}
use Rattle.cps_cause.proofs.opener.open_behind.Goals as goal

pub loop-trace-preserved : goal.loop-trace-preserved
loop-trace-preserved c =
    let traces = c.args.traces.now in
    let at = c.loop-trace.trace-index in
    let before = overwritten first_state (puts_of (take at traces)) in
    subst (λ (s : State). IsOpenNow s c.behind-opened.result)
    (ap (λ (puts : List Put). overwritten before puts) (c.puts.ensures ∙ ap (λ (t : Trace). t.puts) c.trace-item.is)
    ∙ line-behind traces at c.trace-item.result c.loop-trace-test.true)
    (c.behind-opened.ensures before c.loop-trace.invariant)
