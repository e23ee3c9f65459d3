use Rattle.cps_pass.proofs.StepLemmas.{trace-same}
use Rattle.cps_chunk.proofs.course_laws.depends_on_asks_alone.Goals as goal

pub returns : goal.returns
returns c = trace-same
