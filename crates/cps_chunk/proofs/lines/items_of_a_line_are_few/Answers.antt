use Rattle.cps_chunk.specs.LineLaws.{line_course}
use Rattle.cps_pass.proofs.FewLemmas.{items-few}
use Rattle.cps_chunk.proofs.lines.items_of_a_line_are_few.Goals as goal

pub returns : goal.returns
returns c = λ line state. items-few (line_course line) state
