use Rattle.cps_chunk.proofs.PutChunks.{puts-are-edits}
use Rattle.cps_chunk.proofs.chunks.a_put_is_single_edits.Goals as goal

pub returns : goal.returns
returns c = puts-are-edits
