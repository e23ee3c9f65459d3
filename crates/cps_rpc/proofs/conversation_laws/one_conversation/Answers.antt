use Rattle.cps_rpc.proofs.ConversationLemmas.{one-conversation}
use Rattle.cps_rpc.proofs.conversation_laws.one_conversation.Goals as goal

pub returns : goal.returns
returns g c = one-conversation g.S.Service.answers g.S.Service.has_ended
