use Rattle.cps_chunk.proofs.RunLemmas.{asks-no-more}
use Rattle.cps_chunk.proofs.runs.a_run_asks_no_more.Goals as goal

pub returns : goal.returns
returns c = asks-no-more
