use Rattle.cps_chunk.proofs.PieceLemmas.{part-new}
use Rattle.cps_chunk.proofs.division_laws.a_part_begins_no_old_chunk.Goals as goal

pub returns : goal.returns
returns c = part-new
