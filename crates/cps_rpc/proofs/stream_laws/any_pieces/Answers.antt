use Rattle.cps_rpc.proofs.SplittingLemmas.{pieces_split}
use Rattle.cps_rpc.proofs.stream_laws.any_pieces.Goals as goal

pub returns : goal.returns
returns c = pieces_split
