use Rattle.cps_chunk.proofs.TouchedCounterparts.{touched-by-counterparts}
use Rattle.cps_chunk.proofs.chunks.touched_chunks_are_by_counterparts.Goals as goal

pub returns : goal.returns
returns c = touched-by-counterparts c.chunks_stay_by_counterparts.ensures c.a_put_divides_again.ensures
