-- What a service answers to the messages of a stream. Our own.
use Rattle.std.specs.Prelude.{◌≡◌, ℕ, ◌⊎◌, Bool, true, false, List, [], ◌∷◌, ◌++◌}
use Rattle.cps_rpc.specs.Messages.{BeginsWithMessage, HasNoMessage, IsPart}

-- what a service may answer: from where it stands, to a message, by a text, and where it stands then
abbrev pub AnswerRelation : Type 0 → Type 1
AnswerRelation S = S → List ℕ → List ℕ → S → Type 0

-- bytes begin with these messages one after another, and this is left, whatever it is
abbrev pub BeginsWithMessages : List ℕ → List (List ℕ) → List ℕ → Type 0
BeginsWithMessages bytes [] left = bytes ≡ left
BeginsWithMessages bytes (message ∷ messages) left =
    (behind : List ℕ) × BeginsWithMessage bytes message behind × BeginsWithMessages behind messages left

-- messages were answered one after another by a text; none was by a service that had ended
abbrev pub Run : {S : Type 0} → AnswerRelation S → (S → Bool) → S → List (List ℕ) → List ℕ → S → Type 0
Run answers has_ended old [] text new = (text ≡ []) × (new ≡ old)
Run {S = S} answers has_ended old (message ∷ messages) text new =
    (said later : List ℕ) × (mid : S)
    × (has_ended old ≡ false) × answers old message said mid × Run answers has_ended mid messages later new × (text ≡ said ++ later)

-- messages that bytes begin with were answered by a text; this is left of the bytes
pub record Conversation {S : Type 0} (answers : AnswerRelation S) (has_ended : S → Bool) (old : S) (bytes text left : List ℕ) (new : S) : Type 0 where
  pub messages : List (List ℕ)
  pub begins : BeginsWithMessages bytes messages left
  pub run : Run answers has_ended old messages text new

-- all messages that the bytes hold were answered, or all up to the one that ended the service
abbrev pub WholeConversation : {S : Type 0} → AnswerRelation S → (S → Bool) → S → List ℕ → List ℕ → S → Type 0
WholeConversation answers has_ended old bytes text new =
    (left : List ℕ) × Conversation answers has_ended old bytes text left new × (HasNoMessage left ⊎ (has_ended new ≡ true))

-- All messages that have come whole were answered, and the service has not ended. No more than a part of a message is left.
pub record Waits {S : Type 0} (answers : AnswerRelation S) (has_ended : S → Bool) (old : S) (bytes text left : List ℕ) (now : S) : Type 0 where
  pub answered : Conversation answers has_ended old bytes text left now
  pub part : IsPart left
  pub going : has_ended now ≡ false
