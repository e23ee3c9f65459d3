use Rattle.cps_state.proofs.StateLemmas.{shared-next, shared-all}
use Rattle.cps_state.proofs.key.share_puts.Goals as goal

pub loop-put-preserved : goal.loop-put-preserved
loop-put-preserved c =
    shared-next _ _ _ _ _ _ _ c.in-Some.ensures.steps c.in_ok-push.ensures.items c.in_ok-share.ensures c.loop-put.invariant

pub returns : goal.returns
returns c = shared-all c.loop-put.put-iterator.iter.rest.now c.loop-put.same.items c.args.puts.now c.in-None.ensures.steps.0 c.loop-put.invariant
