use Rattle.std.proofs.Common.{refl}
use Rattle.cps_chunk.proofs.ChunkLemmas.{was-marked, chunk-set}
use Rattle.cps_chunk.proofs.chunk.Chunk.mark.Goals as goal

pub returns-clause-marked : goal.returns-clause-marked
returns-clause-marked c =
    was-marked c.args.hashing c.args.trace.now c.args.self.now c.mark_puts.new.self c.mark_asks.new.self c.mark_names.new.self c.mark_puts.ensures.marked c.mark_puts.ensures.kept
    c.mark_asks.ensures.marked c.mark_asks.ensures.kept c.mark_names.ensures.marked c.mark_names.ensures.kept

pub returns-clause-chunk : goal.returns-clause-chunk
returns-clause-chunk c =
    let marked =
    was-marked c.args.hashing c.args.trace.now c.args.self.now c.mark_puts.new.self c.mark_asks.new.self c.mark_names.new.self c.mark_puts.ensures.marked c.mark_puts.ensures.kept
    c.mark_asks.ensures.marked c.mark_asks.ensures.kept c.mark_names.ensures.marked c.mark_names.ensures.kept in
    chunk-set c.args.hashing c.args.self.now _ c.args.trace.now refl marked
