use Rattle.cps_chunk.proofs.ChunkLemmas.{chunk-behind}
use Rattle.cps_chunk.proofs.chunk.Chunk.grow.Goals as goal

pub returns-clause-chunk : goal.returns-clause-chunk
returns-clause-chunk c = chunk-behind c.args.hashing c.args.self.now c.mark.new.self c.args.trace.now c.mark.ensures.lines c.mark.ensures.marked
