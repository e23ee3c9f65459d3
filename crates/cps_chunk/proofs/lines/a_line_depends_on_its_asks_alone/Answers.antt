use Rattle.cps_chunk.specs.LineLaws.{line_course}
use Rattle.cps_pass.proofs.StepLemmas.{trace-same}
use Rattle.cps_chunk.proofs.lines.a_line_depends_on_its_asks_alone.Goals as goal

pub returns : goal.returns
returns c = λ line state. trace-same (line_course line) state
