use Rattle.cps_chunk.specs.LineLaws.{line_course}
use Rattle.cps_chunk.proofs.ListLemmas.{by-list}
use Rattle.cps_chunk.proofs.lines.trace_of_a_line_is_of_its_list.Goals as goal

pub returns : goal.returns
returns c = λ line state. by-list (line_course line) state
