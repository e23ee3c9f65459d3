use Rattle.cps_final.proofs.NamesLemmas.{names-law}
use Rattle.cps_chunk.proofs.runs.a_run_names_each_once.Goals as goal

pub returns : goal.returns
returns c = names-law
