use Rattle.cps_chunk.proofs.ListLemmas.{by-list}
use Rattle.cps_chunk.proofs.course_laws.trace_is_of_the_list.Goals as goal

pub returns : goal.returns
returns c = by-list
