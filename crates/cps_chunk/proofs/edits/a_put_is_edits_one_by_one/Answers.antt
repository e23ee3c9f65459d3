use Rattle.cps_chunk.proofs.PutLines.{puts-one-by-one}
use Rattle.cps_chunk.proofs.edits.a_put_is_edits_one_by_one.Goals as goal

pub returns : goal.returns
returns c = puts-one-by-one
