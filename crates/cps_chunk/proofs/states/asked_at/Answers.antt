use Rattle.cps_chunk.proofs.NotedLemmas.{asked-found, asked-other}
use Rattle.cps_chunk.proofs.states.asked_at.Goals as goal

pub returns-then-eq : goal.returns-then-eq
returns-then-eq c =
    asked-found _ _ c.args.asks.now c.in-Some.asked.now c.args.key.now c.eq.result c.in-Some.ensures.steps c.loop-asked.invariant c.eq.ensures c.if-eq.true

pub loop-asked-preserved : goal.loop-asked-preserved
loop-asked-preserved c =
    asked-other _ _ c.args.asks.now c.in-Some.asked.now c.args.key.now c.eq.result c.in-Some.ensures.steps c.loop-asked.invariant c.eq.ensures c.if-eq.false
