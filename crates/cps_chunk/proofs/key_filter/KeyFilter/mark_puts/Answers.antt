use Rattle.cps_state.specs.declared.key.Put.{Put}
use Rattle.cps_chunk.specs.KeyFilter.{puts_at}
use Rattle.cps_chunk.proofs.MarkLemmas.{key-more, keys-all, marked-line}
use Rattle.cps_chunk.proofs.key_filter.KeyFilter.mark_puts.Goals as goal

pub loop-put-preserved : goal.loop-put-preserved
loop-put-preserved c =
    key-more c.args.hashing (λ (x : Put). x.key) c.puts-put-items.result.now c.loop-put.put-index c.put-item.result c.args.self.now c.loop-put.self c.mark.new.self c.loop-put-test.true c.put-item.is
    c.loop-put.invariant c.mark.ensures.marked c.mark.ensures.kept

pub returns-clause-marked : goal.returns-clause-marked
returns-clause-marked c =
    marked-line c.args.hashing c.loop-put.self puts_at c.args.trace.now
    (keys-all c.args.hashing (λ (x : Put). x.key) c.puts-put-items.result.now c.args.trace.now.puts c.loop-put.put-index c.args.self.now c.loop-put.self c.loop-put-test.false c.puts-put-items.ensures c.loop-put.invariant)
