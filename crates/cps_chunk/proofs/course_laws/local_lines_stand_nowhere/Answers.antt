use Rattle.cps_chunk.proofs.LocalStands.{local-lines-stand-nowhere}
use Rattle.cps_chunk.proofs.course_laws.local_lines_stand_nowhere.Goals as goal

pub returns : goal.returns
returns c = local-lines-stand-nowhere
