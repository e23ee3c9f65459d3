-- Conversations one after another, and over the same bytes.
use Rattle.std.proofs.Common.{◌≡◌, ℕ, ◌⊎◌, ⊎_elim, Bool, true, false, List, [], ◌∷◌, ◌++◌, refl, sym, ap, ap₂, subst, ◌∙◌, append_assoc, append-nil}
use Rattle.cps_rpc.specs.Messages.{BeginsWithMessage, HasNoMessage}
use Rattle.cps_rpc.proofs.MessageLemmas.{one_message, message_stays}
use Rattle.cps_rpc.specs.Conversation.{AnswerRelation, BeginsWithMessages, Run, Conversation, WholeConversation}
use Rattle.cps_rpc.specs.ConversationLaws.{IsDetermined}

-- ---- one after another

begins-more : (bytes more : List ℕ) (messages later : List (List ℕ)) (left rest : List ℕ) → BeginsWithMessages bytes messages left
    → BeginsWithMessages (left ++ more) later rest → BeginsWithMessages (bytes ++ more) (messages ++ later) rest
begins-more bytes more [] later left rest front behind = rw front behind
begins-more bytes more (message ∷ messages) later left rest front behind =
    (front.0 ++ more, message_stays bytes message front.0 more front.1, begins-more front.0 more messages later left rest front.2 behind)

run-append : {S : Type 0} (answers : AnswerRelation S) (has_ended : S → Bool) (messages later : List (List ℕ)) (old mid new : S) (text said : List ℕ)
    → Run answers has_ended old messages text mid → Run answers has_ended mid later said new → Run answers has_ended old (messages ++ later) (text ++ said) new
run-append {S = S} answers has_ended [] later old mid new text said first second =
    let P : S → Type 0 = λ s. Run answers has_ended s later said new in
    rw first.0 (subst P first.1 second)
run-append answers has_ended (message ∷ messages) later old mid new text said first second = (
  first.0,
  first.1 ++ said,
  first.2,
  first.3,
  first.4,
  run-append answers has_ended messages later first.2 mid new first.1 said first.5 second,
  ap (λ t. t ++ said) first.6 ∙ append_assoc first.0 first.1 said,
)

pub conversation-append : {S : Type 0} (answers : AnswerRelation S) (has_ended : S → Bool) (old mid new : S) (bytes more text later left rest : List ℕ)
    → Conversation answers has_ended old bytes text left mid → Conversation answers has_ended mid (left ++ more) later rest new
    → Conversation answers has_ended old (bytes ++ more) (text ++ later) rest new
conversation-append answers has_ended old mid new bytes more text later left rest first second = record {
  messages = first.messages ++ second.messages;
  begins = begins-more bytes more first.messages second.messages left rest first.begins second.begins;
  run = run-append answers has_ended first.messages second.messages old mid new text later first.run second.run;
}

-- nothing is answered
pub conversation-none : {S : Type 0} (answers : AnswerRelation S) (has_ended : S → Bool) (now : S) (bytes : List ℕ) → Conversation answers has_ended now bytes [] bytes now
conversation-none answers has_ended now bytes = record { messages = []; begins = refl; run = (refl, refl) }

-- one more message is answered
pub conversation-push : {S : Type 0} (answers : AnswerRelation S) (has_ended : S → Bool) (old mid new : S) (bytes left behind message text said : List ℕ)
    → Conversation answers has_ended old bytes text left mid → has_ended mid ≡ false → BeginsWithMessage left message behind → answers mid message said new
    → Conversation answers has_ended old bytes (text ++ said) behind new
conversation-push {S = S} answers has_ended old mid new bytes left behind message text said first going begins answer =
    let one : Conversation answers has_ended mid (left ++ []) said behind new = rw append-nil (record {
      messages = message ∷ [];
      begins = (behind, begins, refl);
      run = (said, [], new, going, answer, (refl, refl), sym (append-nil said));
    }) in
    rw append-nil at (conversation-append answers has_ended old mid new bytes [] text said left behind first one)

-- ---- over the same bytes

-- nothing of these bytes is left to be answered
abbrev pub IsOver : {S : Type 0} → (S → Bool) → List ℕ → S → Type 0
IsOver has_ended left now = HasNoMessage left ⊎ (has_ended now ≡ true)

-- a conversation that is over has no further message
over-none : {S : Type 0} (answers : AnswerRelation S) (has_ended : S → Bool) (old new other : S) (bytes left rest said message : List ℕ) (messages : List (List ℕ))
    → IsOver has_ended left new → bytes ≡ left → new ≡ old
    → BeginsWithMessages bytes (message ∷ messages) rest → Run answers has_ended old (message ∷ messages) said other → ⊥
over-none answers has_ended old new other bytes left rest said message messages over is same begins run = ⊎_elim
    (λ (none : HasNoMessage left). none message begins.0 (rw is at begins.1))
    (λ (ended : has_ended new ≡ true). let e : has_ended old ≡ true = ap has_ended (sym same) ∙ ended in let going = run.3 in cc)
    over

one-run : {S : Type 0} (answers : AnswerRelation S) (has_ended : S → Bool) → IsDetermined answers → (messages others : List (List ℕ)) (old new other : S) (bytes left rest text said : List ℕ)
    → BeginsWithMessages bytes messages left → Run answers has_ended old messages text new → IsOver has_ended left new
    → BeginsWithMessages bytes others rest → Run answers has_ended old others said other → IsOver has_ended rest other → (text ≡ said) × (new ≡ other)
one-run answers has_ended determined [] [] old new other bytes left rest text said begins run over begins' run' over' = (run.0 ∙ sym run'.0, run.1 ∙ sym run'.1)
one-run answers has_ended determined [] (message ∷ others) old new other bytes left rest text said begins run over begins' run' over' =
    absurd (over-none answers has_ended old new other bytes left rest said message others over begins run.1 begins' run')
one-run answers has_ended determined (message ∷ messages) [] old new other bytes left rest text said begins run over begins' run' over' =
    absurd (over-none answers has_ended old other new bytes rest left text message messages over' begins' run'.1 begins run)
one-run {S = S} answers has_ended determined (message ∷ messages) (second ∷ others) old new other bytes left rest text said begins run over begins' run' over' =
    let same = one_message bytes message second begins.0 begins'.0 begins.1 begins'.1 in
    let answer : answers old message run'.0 run'.2 = rw (sym same.0) at run'.4 in
    let step = determined old run.2 run'.2 message run.0 run'.0 run.4 answer in
    let P : S → Type 0 = λ s. Run answers has_ended s others run'.1 other in
    let later = one-run answers has_ended determined messages others run.2 new other begins.0 left rest run.1 run'.1 begins.2 run.5 over
    (rw (sym same.1) at begins'.2) (subst P (sym step.1) run'.5) over' in
    (run.6 ∙ ap₂ (λ a b. a ++ b) step.0 later.0 ∙ sym run'.6, later.1)

pub one-conversation : {S : Type 0} (answers : AnswerRelation S) (has_ended : S → Bool) → IsDetermined answers → (old new other : S) (bytes text said : List ℕ)
    → WholeConversation answers has_ended old bytes text new → WholeConversation answers has_ended old bytes said other → (text ≡ said) × (new ≡ other)
one-conversation answers has_ended determined old new other bytes text said a b =
    one-run answers has_ended determined a.1.messages b.1.messages old new other bytes a.0 b.0 text said a.1.begins a.1.run a.2 b.1.begins b.1.run b.2
