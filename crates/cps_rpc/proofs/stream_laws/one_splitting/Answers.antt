use Rattle.cps_rpc.proofs.SplittingLemmas.{one_splitting_lem}
use Rattle.cps_rpc.proofs.stream_laws.one_splitting.Goals as goal

pub returns : goal.returns
returns c = one_splitting_lem
