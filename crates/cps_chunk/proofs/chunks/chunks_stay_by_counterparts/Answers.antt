use Rattle.cps_chunk.proofs.ChunkCounterparts.{stays-by-counterparts}
use Rattle.cps_chunk.proofs.chunks.chunks_stay_by_counterparts.Goals as goal

pub returns : goal.returns
returns c = stays-by-counterparts c.an_insertion_divides_again.ensures c.a_put_divides_again.ensures
