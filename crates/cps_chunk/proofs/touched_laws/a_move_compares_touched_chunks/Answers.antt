use Rattle.cps_chunk.proofs.MoveLooksLemmas.{move-looks-law}
use Rattle.cps_chunk.proofs.touched_laws.a_move_compares_touched_chunks.Goals as goal

pub returns : goal.returns
returns c = move-looks-law
