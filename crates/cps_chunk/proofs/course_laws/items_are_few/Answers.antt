use Rattle.cps_pass.proofs.FewLemmas.{items-few}
use Rattle.cps_chunk.proofs.course_laws.items_are_few.Goals as goal

pub returns : goal.returns
returns c = items-few
