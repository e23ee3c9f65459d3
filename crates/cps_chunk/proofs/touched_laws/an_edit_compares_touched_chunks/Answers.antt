use Rattle.cps_chunk.proofs.TouchedLemmas.{looks-law}
use Rattle.cps_chunk.proofs.touched_laws.an_edit_compares_touched_chunks.Goals as goal

pub returns : goal.returns
returns c = looks-law
