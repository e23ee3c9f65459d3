-- Messages of a stream, answered one after another.
use Rattle.std.proofs.Common.{◌≡◌, ℕ, Bool, false, List, [], ◌++◌, Option, Ok, Err, refl, ◌∙◌}
use Rattle.std.proofs.KnownBytes.{Appends-nil, Appends-trans}
use Rattle.cps_text.specs.declared.counted.Counted.{Counted}
use Rattle.cps_rpc.specs.Messages.{BeginsWithMessage, NeverHasMessage}
use Rattle.cps_rpc.specs.declared.stream.StreamFault.{StreamFault}
use Rattle.cps_rpc.specs.declared.stream.StreamFault.TheVariants as stream
use Rattle.cps_rpc.specs.Conversation.{AnswerRelation}
use Rattle.cps_rpc.specs.Faults.{of_stream}
use Rattle.cps_rpc.specs.Code.Answering.{AnswersMessage, WritesAnswers, AnswersStream}
use Rattle.cps_rpc.proofs.ConversationLemmas.{conversation-push, conversation-none}

-- before the first message
pub writes-none : {S W : Type 0} (answers : AnswerRelation S) (has_ended : S → Bool) (contents : W → Option (List ℕ)) (bytes : List ℕ) (now : S) (writer : Counted W)
    → WritesAnswers answers has_ended contents bytes bytes now now writer writer
writes-none answers has_ended contents bytes now writer = record { text = []; answered = conversation-none answers has_ended now bytes; whole = (Appends-nil _, refl) }

-- one more message is answered
pub writes-more : {S W : Type 0} (answers : AnswerRelation S) (has_ended : S → Bool) (contents : W → Option (List ℕ)) (bytes left behind message : List ℕ) (old mid new : S) (writer between after : Counted W)
    → WritesAnswers answers has_ended contents bytes left old mid writer between → has_ended mid ≡ false → BeginsWithMessage left message behind
    → AnswersMessage answers contents (Ok tt) message mid new between after → WritesAnswers answers has_ended contents bytes behind old new writer after
writes-more answers has_ended contents bytes left behind message old mid new writer between after told going begins answer = record {
  text = told.text ++ answer.0;
  answered = conversation-push answers has_ended old mid new bytes left behind message told.text answer.0 told.answered going begins answer.1;
  whole = (Appends-trans _ _ _ _ _ told.whole.0 answer.2.0, answer.2.1 ∙ told.whole.1);
}

-- the stream gives no further message
pub stream-fault : {S W : Type 0} (answers : AnswerRelation S) (has_ended : S → Bool) (contents : W → Option (List ℕ)) (fault : StreamFault) (bytes left : List ℕ) (old now : S) (writer after : Counted W)
    → WritesAnswers answers has_ended contents bytes left old now writer after → has_ended now ≡ false
    → (fault ≡ stream.BadHeader → NeverHasMessage left) → AnswersStream answers has_ended contents (Err (of_stream fault)) bytes left old now writer after
stream-fault answers has_ended contents stream.BadHeader bytes left old now writer after told going bad = (told, bad refl, going)
stream-fault answers has_ended contents stream.Memory bytes left old now writer after told going bad = (left, now, told, going)
