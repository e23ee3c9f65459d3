use Rattle.cps_chunk.specs.LineLaws.{line_course}
use Rattle.cps_chunk.proofs.ListLemmas.{items-list}
use Rattle.cps_chunk.proofs.lines.items_of_a_line_are_its_list.Goals as goal

pub returns : goal.returns
returns c = λ line state. items-list (line_course line) state
