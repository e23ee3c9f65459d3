use Rattle.cps_chunk.proofs.MarkLemmas.{full-marked}
use Rattle.cps_chunk.proofs.key_filter.KeyFilter.all.Goals as goal

pub returns : goal.returns
returns c = full-marked
