use Rattle.std.proofs.Common.{take, ap, ◌∙◌}
use Rattle.cps_state.specs.Keys.{overwritten, with_put}
use Rattle.cps_state.specs.declared.key.Put.{Put}
use Rattle.cps_cause.proofs.OpenerLemmas.{put-behind}
use Rattle.cps_server.specs.MachineAbove.{machine_in}
use Rattle.cps_server.proofs.machine_above.behind.Goals as goal

pub loop-put-preserved : goal.loop-put-preserved
loop-put-preserved c state is =
    let puts = c.args.puts.now in
    let at = c.loop-put.put-index in
    let before = overwritten state (take at puts) in
    c.with-machine.ensures before (c.loop-put.invariant state is)
    ∙ ap machine_in (ap (λ (p : Put). with_put before p) c.put-item.is ∙ put-behind state puts at c.put-item.result c.loop-put-test.true)
