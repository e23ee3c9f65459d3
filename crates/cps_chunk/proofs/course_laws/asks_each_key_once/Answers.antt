use Rattle.cps_pass.proofs.OnceLemmas.{asks-once}
use Rattle.cps_chunk.proofs.course_laws.asks_each_key_once.Goals as goal

pub returns : goal.returns
returns c = asks-once
