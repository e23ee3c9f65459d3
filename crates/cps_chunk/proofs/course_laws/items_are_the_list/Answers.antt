use Rattle.cps_chunk.proofs.ListLemmas.{items-list}
use Rattle.cps_chunk.proofs.course_laws.items_are_the_list.Goals as goal

pub returns : goal.returns
returns c = items-list
