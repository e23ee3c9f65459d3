use Rattle.cps_chunk.proofs.NamedLemmas.{named-same}
use Rattle.cps_chunk.proofs.runs.a_run_makes_what_it_names.Goals as goal

pub returns : goal.returns
returns c = named-same
