use Rattle.cps_chunk.proofs.RunLemmas.{run-law}
use Rattle.cps_chunk.proofs.runs.a_run_stands_by_what_it_asks.Goals as goal

pub returns : goal.returns
returns c = run-law
