use Rattle.cps_chunk.proofs.PutChunks.{puts-stay}
use Rattle.cps_chunk.proofs.chunks.a_put_changes_few_chunks.Goals as goal

pub returns : goal.returns
returns c = puts-stay c.a_deletion_divides_again.ensures
