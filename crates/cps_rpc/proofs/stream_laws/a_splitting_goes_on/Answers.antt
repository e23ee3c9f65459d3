use Rattle.cps_rpc.proofs.SplittingLemmas.{splitting_goes_on}
use Rattle.cps_rpc.proofs.stream_laws.a_splitting_goes_on.Goals as goal

pub returns : goal.returns
returns c = splitting_goes_on
