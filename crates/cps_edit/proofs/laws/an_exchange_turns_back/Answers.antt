use Rattle.cps_edit.proofs.ListLemmas.{turns-back}
use Rattle.cps_edit.proofs.laws.an_exchange_turns_back.Goals as goal

pub returns : goal.returns
returns row c = turns-back
