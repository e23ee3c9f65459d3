use Rattle.cps_chunk.proofs.MarkLemmas.{none-has}
use Rattle.cps_chunk.proofs.key_filter.KeyFilter.none.Goals as goal

pub returns : goal.returns
returns c = none-has
