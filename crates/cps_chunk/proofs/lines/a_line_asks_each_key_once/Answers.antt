use Rattle.cps_chunk.specs.LineLaws.{line_course}
use Rattle.cps_pass.proofs.OnceLemmas.{asks-once}
use Rattle.cps_chunk.proofs.lines.a_line_asks_each_key_once.Goals as goal

pub returns : goal.returns
returns c = λ line state. asks-once (line_course line) state
