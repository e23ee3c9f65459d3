use Rattle.std.proofs.Common.{take, ap, subst, ◌∙◌}
use Rattle.cps_state.specs.Keys.{State, overwritten, with_put}
use Rattle.cps_state.specs.declared.key.Put.{Put}
use Rattle.cps_cause.specs.Code.OpenNow.{IsOpenNow}
use Rattle.cps_cause.proofs.OpenerLemmas.{put-behind}
use Rattle.cps_cause.proofs.open_now.OpenNow.behind.Goals as goal

pub loop-put-preserved : goal.loop-put-preserved
loop-put-preserved c state is =
    let puts = c.args.puts.now in
    let at = c.loop-put.put-index in
    let before = overwritten state (take at puts) in
    subst (λ (s : State). IsOpenNow s c.with-opened.result)
    (ap (λ (p : Put). with_put before p) c.put-item.is ∙ put-behind state puts at c.put-item.result c.loop-put-test.true)
    (c.with-opened.ensures before (c.loop-put.invariant state is))
