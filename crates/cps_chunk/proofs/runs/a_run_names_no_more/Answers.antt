use Rattle.cps_chunk.proofs.NamedLemmas.{named-no-more}
use Rattle.cps_chunk.proofs.runs.a_run_names_no_more.Goals as goal

pub returns : goal.returns
returns c = named-no-more
