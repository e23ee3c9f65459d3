use Rattle.cps_rpc.proofs.UnitLemmas.{place_in-units_before}
use Rattle.cps_rpc.proofs.text_laws.units_tell_place.Goals as goal

pub returns : goal.returns
returns c = place_in-units_before
