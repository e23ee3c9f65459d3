-- What a server does, by its result. Our own.
use Rattle.std.specs.Prelude.{◌≡◌, ℕ, ◌<◌, ◌⊎◌, Bool, true, false, List, ◌++◌, length, Option, Result, Ok, Err, IfSome}
use Rattle.std.specs.Io.KnownBytes.{Consumes}
use Rattle.cps_text.specs.declared.counted.Counted.{Counted}
use Rattle.cps_text.specs.Counted.{inner_of, failures_of, FailsOnce}
use Rattle.cps_rpc.specs.Messages.{BeginsWithMessage, NeverHasMessage, IsPart}
use Rattle.cps_rpc.specs.declared.fault.ServerFault.{ServerFault}
use Rattle.cps_rpc.specs.declared.fault.ServerFault.TheVariants as faults
use Rattle.cps_rpc.specs.Conversation.{AnswerRelation, Conversation, WholeConversation, Waits}
use Rattle.cps_rpc.specs.Reads.{Gave, IsInputEnd, IsCutOff}
use Rattle.cps_rpc.specs.Written.{IsWritten}

-- How far a server has come. Before its last read it waited, with a part of a message left; then it answered messages that this part and the last bytes begin with. `text` is all that it said, and `left` what is left of the bytes.
pub record HasAnswered {S : Type 0} (answers : AnswerRelation S) (has_ended : S → Bool) (old : S) (before last text left : List ℕ) (new : S) : Type 0 where
  pub earlier : List ℕ
  pub part : List ℕ
  pub mid : S
  pub later : List ℕ
  pub waited : Waits answers has_ended old before earlier part mid
  pub since : Conversation answers has_ended mid (part ++ last) later left new
  pub said : text ≡ earlier ++ later

-- It ended well, and all that it said is written. The input is at its end, and no more than a part of a message is left; or a message that came whole with the last read has ended the service. Of an input that is known, this is the whole conversation.
pub record ServedToEnd {S R W : Type 0} (answers : AnswerRelation S) (has_ended : S → Bool) (remaining : R → Option (List ℕ)) (contents : W → Option (List ℕ)) (old new : S) (reader reader' : Counted R) (writer writer' : Counted W) : Type 0 where
  pub before : List ℕ
  pub last : List ℕ
  pub text : List ℕ
  pub left : List ℕ
  pub read : Gave remaining reader reader' before last
  pub answered : HasAnswered answers has_ended old before last text left new
  pub ended : (IsPart left × IsInputEnd last (remaining (inner_of reader'))) ⊎ (has_ended new ≡ true)
  pub whole : IfSome (remaining (inner_of reader)) (λ input. WholeConversation answers has_ended old input text new)
  pub written : IsWritten contents writer writer' text
  pub write_unfailed : failures_of writer' ≡ failures_of writer

-- Reading was cut off. All messages that have come whole were answered, and all that was said is written.
pub record StoppedAtRead {S R W : Type 0} (answers : AnswerRelation S) (has_ended : S → Bool) (remaining : R → Option (List ℕ)) (contents : W → Option (List ℕ)) (old new : S) (reader reader' : Counted R) (writer writer' : Counted W) : Type 0 where
  pub taken : List ℕ
  pub text : List ℕ
  pub left : List ℕ
  pub given : Consumes (remaining (inner_of reader)) (remaining (inner_of reader')) taken
  pub early : IsCutOff reader reader' taken
  pub waits : Waits answers has_ended old taken text left new
  pub written : IsWritten contents writer writer' text
  pub write_unfailed : failures_of writer' ≡ failures_of writer

-- What is left begins with no message, whatever follows. All messages before it were answered, and all that was said is written.
pub record StoppedAtHeader {S R W : Type 0} (answers : AnswerRelation S) (has_ended : S → Bool) (remaining : R → Option (List ℕ)) (contents : W → Option (List ℕ)) (old new : S) (reader reader' : Counted R) (writer writer' : Counted W) : Type 0 where
  pub before : List ℕ
  pub last : List ℕ
  pub text : List ℕ
  pub left : List ℕ
  pub read : Gave remaining reader reader' before last
  pub answered : HasAnswered answers has_ended old before last text left new
  pub going : has_ended new ≡ false
  pub bad : NeverHasMessage left
  pub written : IsWritten contents writer writer' text
  pub write_unfailed : failures_of writer' ≡ failures_of writer

-- A write failed. The answers to earlier messages are written whole, and then a front of the answer to `message`; `unsaid` is the rest of it.
pub record StoppedAtWrite {S R W : Type 0} (answers : AnswerRelation S) (has_ended : S → Bool) (remaining : R → Option (List ℕ)) (contents : W → Option (List ℕ)) (old new : S) (reader reader' : Counted R) (writer writer' : Counted W) : Type 0 where
  pub before : List ℕ
  pub last : List ℕ
  pub text : List ℕ
  pub left : List ℕ
  pub mid : S
  pub read : Gave remaining reader reader' before last
  pub answered : HasAnswered answers has_ended old before last text left mid
  pub going : has_ended mid ≡ false
  pub message : List ℕ
  pub behind : List ℕ
  pub begins : BeginsWithMessage left message behind
  pub front : List ℕ
  pub unsaid : List ℕ
  pub answer : answers mid message (front ++ unsaid) new
  pub written : IsWritten contents writer writer' (text ++ front)
  pub failed : FailsOnce writer writer'

-- There was no memory for what is left: for its bytes, for the message that they begin with, or for its answer, of which nothing is written. The answers to all messages before it are written whole. It isn't told where the service stands.
pub record StoppedWithoutMemory {S R W : Type 0} (answers : AnswerRelation S) (has_ended : S → Bool) (remaining : R → Option (List ℕ)) (contents : W → Option (List ℕ)) (old : S) (reader reader' : Counted R) (writer writer' : Counted W) : Type 0 where
  pub before : List ℕ
  pub last : List ℕ
  pub text : List ℕ
  pub left : List ℕ
  pub mid : S
  pub read : Gave remaining reader reader' before last
  pub some : 0 < length last
  pub answered : HasAnswered answers has_ended old before last text left mid
  pub going : has_ended mid ≡ false
  pub written : IsWritten contents writer writer' text
  pub write_unfailed : failures_of writer' ≡ failures_of writer

-- what a server does, by its result: `old` is where its service stood, and `new` where it stands then
abbrev pub Serves : {S R W : Type 0} → AnswerRelation S → (S → Bool) → (R → Option (List ℕ)) → (W → Option (List ℕ)) → Result (Unit {0}) ServerFault → S → S → Counted R → Counted R → Counted W → Counted W → Type 0
Serves answers has_ended remaining contents (Ok done) old new reader reader' writer writer' = ServedToEnd answers has_ended remaining contents old new reader reader' writer writer'
Serves answers has_ended remaining contents (Err faults.BadHeader) old new reader reader' writer writer' = StoppedAtHeader answers has_ended remaining contents old new reader reader' writer writer'
Serves answers has_ended remaining contents (Err faults.ReadFault) old new reader reader' writer writer' = StoppedAtRead answers has_ended remaining contents old new reader reader' writer writer'
Serves answers has_ended remaining contents (Err faults.WriteFault) old new reader reader' writer writer' = StoppedAtWrite answers has_ended remaining contents old new reader reader' writer writer'
Serves answers has_ended remaining contents (Err faults.Memory) old new reader reader' writer writer' = StoppedWithoutMemory answers has_ended remaining contents old reader reader' writer writer'
