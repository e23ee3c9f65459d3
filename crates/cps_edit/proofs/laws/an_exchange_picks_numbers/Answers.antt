use Rattle.cps_edit.proofs.NumberLemmas.{exchanged-picks}
use Rattle.cps_edit.proofs.laws.an_exchange_picks_numbers.Goals as goal

pub returns : goal.returns
returns row c = exchanged-picks
