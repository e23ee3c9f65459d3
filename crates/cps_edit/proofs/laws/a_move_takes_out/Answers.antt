use Rattle.cps_edit.proofs.ListLemmas.{takes-out}
use Rattle.cps_edit.proofs.laws.a_move_takes_out.Goals as goal

pub returns : goal.returns
returns row c = takes-out
