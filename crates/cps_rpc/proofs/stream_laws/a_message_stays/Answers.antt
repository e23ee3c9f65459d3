use Rattle.cps_rpc.proofs.MessageLemmas.{message_stays}
use Rattle.cps_rpc.proofs.stream_laws.a_message_stays.Goals as goal

pub returns : goal.returns
returns c = message_stays
