-- For the loop over the messages that have come, not part of what a reader believes: what answering them comes to.
use Rattle.std.specs.Prelude.{◌≡◌, ℕ, ◌⊎◌, Bool, true, false, List, ◌++◌, Option, Result, Ok, Err}
use Rattle.cps_text.specs.declared.counted.Counted.{Counted}
use Rattle.cps_text.specs.Counted.{failures_of, FailsOnce}
use Rattle.cps_rpc.specs.Messages.{BeginsWithMessage, NeverHasMessage, IsPart}
use Rattle.cps_rpc.specs.declared.fault.ServerFault.{ServerFault}
use Rattle.cps_rpc.specs.declared.fault.ServerFault.TheVariants as faults
use Rattle.cps_rpc.specs.Conversation.{AnswerRelation, Conversation}
use Rattle.cps_rpc.specs.Written.{IsWritten}

-- a text is written, and no write failed
abbrev pub IsAllWritten : {W : Type 0} → (W → Option (List ℕ)) → Counted W → Counted W → List ℕ → Type 0
IsAllWritten contents writer writer' text = IsWritten contents writer writer' text × (failures_of writer' ≡ failures_of writer)

-- a message was answered, and the answer written; or a front of it was; or there was no memory, and nothing is written
abbrev pub AnswersMessage : {S W : Type 0} → AnswerRelation S → (W → Option (List ℕ)) → Result (Unit {0}) ServerFault → List ℕ → S → S → Counted W → Counted W → Type 0
AnswersMessage answers contents (Ok done) message old new writer writer' =
    (said : List ℕ) × answers old message said new × IsAllWritten contents writer writer' said
AnswersMessage answers contents (Err faults.WriteFault) message old new writer writer' =
    (front unsaid : List ℕ) × answers old message (front ++ unsaid) new × IsWritten contents writer writer' front × FailsOnce writer writer'
AnswersMessage answers contents (Err faults.Memory) message old new writer writer' = writer' ≡ writer
AnswersMessage answers contents (Err _) message old new writer writer' = ⊥

-- messages that bytes begin with were answered, and the answers written; this is left of the bytes
pub record WritesAnswers {S W : Type 0} (answers : AnswerRelation S) (has_ended : S → Bool) (contents : W → Option (List ℕ)) (bytes left : List ℕ) (old new : S) (writer writer' : Counted W) : Type 0 where
  pub text : List ℕ
  pub answered : Conversation answers has_ended old bytes text left new
  pub whole : IsAllWritten contents writer writer' text

-- a write failed: the answers to messages before one are written whole, and a front of its answer
pub record FailsInAnswer {S W : Type 0} (answers : AnswerRelation S) (has_ended : S → Bool) (contents : W → Option (List ℕ)) (bytes : List ℕ) (old new : S) (writer writer' : Counted W) : Type 0 where
  pub text : List ℕ
  pub left : List ℕ
  pub mid : S
  pub answered : Conversation answers has_ended old bytes text left mid
  pub going : has_ended mid ≡ false
  pub message : List ℕ
  pub behind : List ℕ
  pub begins : BeginsWithMessage left message behind
  pub front : List ℕ
  pub unsaid : List ℕ
  pub answer : answers mid message (front ++ unsaid) new
  pub written : IsWritten contents writer writer' (text ++ front)
  pub failed : FailsOnce writer writer'

-- what answering the messages of a stream comes to
abbrev pub AnswersStream : {S W : Type 0} → AnswerRelation S → (S → Bool) → (W → Option (List ℕ)) → Result (Unit {0}) ServerFault → List ℕ → List ℕ → S → S → Counted W → Counted W → Type 0
AnswersStream answers has_ended contents (Ok done) bytes left old new writer writer' =
    WritesAnswers answers has_ended contents bytes left old new writer writer' × ((IsPart left × (has_ended new ≡ false)) ⊎ (has_ended new ≡ true))
AnswersStream answers has_ended contents (Err faults.BadHeader) bytes left old new writer writer' =
    WritesAnswers answers has_ended contents bytes left old new writer writer' × NeverHasMessage left × (has_ended new ≡ false)
AnswersStream answers has_ended contents (Err faults.ReadFault) bytes left old new writer writer' = ⊥
AnswersStream answers has_ended contents (Err faults.WriteFault) bytes left old new writer writer' =
    FailsInAnswer answers has_ended contents bytes old new writer writer'
AnswersStream {S = S} answers has_ended contents (Err faults.Memory) bytes left old new writer writer' =
    (rest : List ℕ) × (mid : S) × WritesAnswers answers has_ended contents bytes rest old mid writer writer' × (has_ended mid ≡ false)
