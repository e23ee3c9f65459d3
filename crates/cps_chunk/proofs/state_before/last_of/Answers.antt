use Rattle.std.proofs.Common.{rules, ◌≡◌, ap, sym}
use Rattle.cps_state.specs.Course.{last_put}
use Rattle.cps_chunk.proofs.PastLemmas.{put-found, put-passed}
use Rattle.cps_chunk.proofs.state_before.last_of.Goals as goal

pub loop-put-init : goal.loop-put-init
loop-put-init c =
    let whole : c.into_iter-put-iterator.result.iter.rest.now ≡ c.args.puts.now = search rules in
    ap (λ ps. last_put ps c.args.key.now) whole

pub returns-then-eq : goal.returns-then-eq
returns-then-eq c = put-found _ _ c.in-Some.put.now c.args.key.now _ c.in-Some.ensures.steps (sym c.if-eq.ensures) c.loop-put.invariant

pub loop-put-preserved : goal.loop-put-preserved
loop-put-preserved c = put-passed _ _ c.in-Some.put.now c.args.key.now _ c.in-Some.ensures.steps (sym c.if-eq.ensures) c.loop-put.invariant
