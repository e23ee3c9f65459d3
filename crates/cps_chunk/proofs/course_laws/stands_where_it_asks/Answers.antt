use Rattle.cps_chunk.proofs.LineStands.{stands-where-it-asks}
use Rattle.cps_chunk.proofs.course_laws.stands_where_it_asks.Goals as goal

pub returns : goal.returns
returns c = stands-where-it-asks
