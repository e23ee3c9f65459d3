use Rattle.cps_rpc.proofs.ConversationLemmas.{conversation-append}
use Rattle.cps_rpc.proofs.conversation_laws.a_conversation_goes_on.Goals as goal

pub returns : goal.returns
returns g c = conversation-append g.S.Service.answers g.S.Service.has_ended
