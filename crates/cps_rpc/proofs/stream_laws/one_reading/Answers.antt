use Rattle.cps_rpc.proofs.MessageLemmas.{one_message}
use Rattle.cps_rpc.proofs.stream_laws.one_reading.Goals as goal

pub returns : goal.returns
returns c = one_message
