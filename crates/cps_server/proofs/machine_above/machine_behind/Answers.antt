use Rattle.std.proofs.Common.{List, take, ap, ◌∙◌}
use Rattle.cps_state.specs.Course.{Trace}
use Rattle.cps_state.specs.declared.key.Put.{Put}
use Rattle.cps_state.specs.Keys.{first_state, overwritten}
use Rattle.cps_final.specs.Layout.{puts_of}
use Rattle.cps_cause.proofs.OpenerLemmas.{line-behind}
use Rattle.cps_server.specs.MachineAbove.{machine_in}
use Rattle.cps_server.proofs.machine_above.machine_behind.Goals as goal

pub loop-trace-preserved : goal.loop-trace-preserved
loop-trace-preserved c =
    let traces = c.args.traces.now in
    let at = c.loop-trace.trace-index in
    let before = overwritten first_state (puts_of (take at traces)) in
    c.behind-machine.ensures before c.loop-trace.invariant
    ∙ ap machine_in (ap (λ (puts : List Put). overwritten before puts) (c.puts.ensures ∙ ap (λ (t : Trace). t.puts) c.trace-item.is)
    ∙ line-behind traces at c.trace-item.result c.loop-trace-test.true)
