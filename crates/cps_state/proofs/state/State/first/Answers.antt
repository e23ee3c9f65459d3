use Rattle.cps_state.proofs.StateLemmas.{first-kept}
use Rattle.cps_state.proofs.state.State.first.Goals as goal

pub returns : goal.returns
returns c = first-kept _ _ _ _ _ _ c.first_control.ensures c.normal.ensures c.first_place.ensures c.empty.ensures c.empty-2.ensures c.new.ensures
