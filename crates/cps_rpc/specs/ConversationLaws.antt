-- What holds of all conversations.
use Rattle.std.specs.Prelude.{◌≡◌, ℕ, Bool, List, ◌++◌}
use Rattle.cps_rpc.specs.Conversation.{AnswerRelation, Conversation, WholeConversation}

-- more bytes are answered behind what the others left
abbrev pub ConversationGoesOn : {S : Type 0} → AnswerRelation S → (S → Bool) → Type 0
ConversationGoesOn {S = S} answers has_ended = (old mid new : S) (bytes more text later left rest : List ℕ)
    → Conversation answers has_ended old bytes text left mid → Conversation answers has_ended mid (left ++ more) later rest new
    → Conversation answers has_ended old (bytes ++ more) (text ++ later) rest new

-- a service answers each message in one way
abbrev pub IsDetermined : {S : Type 0} → AnswerRelation S → Type 0
IsDetermined {S = S} answers = (old new other : S) (message text said : List ℕ)
    → answers old message text new → answers old message said other → (text ≡ said) × (new ≡ other)

-- such a service holds one conversation over the same bytes
abbrev pub OneConversation : {S : Type 0} → AnswerRelation S → (S → Bool) → Type 0
OneConversation {S = S} answers has_ended = IsDetermined answers → (old new other : S) (bytes text said : List ℕ)
    → WholeConversation answers has_ended old bytes text new → WholeConversation answers has_ended old bytes said other → (text ≡ said) × (new ≡ other)
