use Rattle.cps_state.specs.declared.key.Asked.{Asked}
use Rattle.cps_chunk.specs.KeyFilter.{asks_at}
use Rattle.cps_chunk.proofs.MarkLemmas.{key-more, keys-all, marked-line}
use Rattle.cps_chunk.proofs.key_filter.KeyFilter.mark_asks.Goals as goal

pub loop-asked-preserved : goal.loop-asked-preserved
loop-asked-preserved c =
    key-more c.args.hashing (λ (x : Asked). x.key) c.asks-asked-items.result.now c.loop-asked.asked-index c.asked-item.result c.args.self.now c.loop-asked.self c.mark.new.self c.loop-asked-test.true c.asked-item.is
    c.loop-asked.invariant c.mark.ensures.marked c.mark.ensures.kept

pub returns-clause-marked : goal.returns-clause-marked
returns-clause-marked c =
    marked-line c.args.hashing c.loop-asked.self asks_at c.args.trace.now
    (keys-all c.args.hashing (λ (x : Asked). x.key) c.asks-asked-items.result.now c.args.trace.now.asks c.loop-asked.asked-index c.args.self.now c.loop-asked.self c.loop-asked-test.false c.asks-asked-items.ensures c.loop-asked.invariant)
