-- What a server has done, read by read.
use Rattle.std.proofs.Common.{◌≡◌, ◌<◌, ◌≤◌, ℕ, Bool, true, false, List, [], ◌∷◌, ◌++◌, length, take, Option, None, Some, Err, refl, sym, ap, inl, inr, ◌∙◌, arith, rules, append-nil, append_assoc, length-append}
use Rattle.std.specs.Prelude.{IfSome}
use Rattle.std.specs.List.{flat_map}
use Rattle.std.specs.Io.KnownBytes.{Consumes, IsAtEnd}
use Rattle.std.proofs.KnownBytes.{Consumes-trans, Appends-trans}
use Rattle.httparse.specs.Grammar.{Field, LineEnd, crlf, lf, print_field, print_section}
use Rattle.cps_text.specs.declared.counted.Counted.{Counted}
use Rattle.cps_text.specs.Counted.{inner_of, calls_of, failures_of, moved_of, idle_of, raised, raised_on_zero}
use Rattle.cps_input.specs.Reads.{HasRead}
use Rattle.cps_input.proofs.ReadLemmas.{read-last, taken_length}
use Rattle.cps_rpc.specs.Messages.{IsPart}
use Rattle.cps_rpc.specs.declared.fault.ServerFault.{ServerFault}
use Rattle.cps_rpc.specs.declared.fault.ServerFault.TheVariants as faults
use Rattle.cps_rpc.specs.Conversation.{AnswerRelation, Conversation, WholeConversation, Waits}
use Rattle.cps_rpc.specs.Reads.{Gave}
use Rattle.cps_rpc.specs.Written.{IsWritten}
use Rattle.cps_rpc.specs.Code.Answering.{WritesAnswers, AnswersStream}
use Rattle.cps_rpc.specs.Serving.{HasAnswered, ServedToEnd, Serves}
use Rattle.cps_rpc.proofs.ConversationLemmas.{conversation-none, conversation-append}

-- ---- before the first read

section-some : (fields : List Field) (last : LineEnd) → 0 < length (print_section fields last)
section-some fields crlf = omega (arith, length-append (flat_map print_field fields) (13 ∷ 10 ∷ []))
section-some fields lf = omega (arith, length-append (flat_map print_field fields) (10 ∷ []))

-- a section has a byte
nil-section : (fields : List Field) (last : LineEnd) (rest : List ℕ) → [] ≡ print_section fields last ++ rest → ⊥
nil-section fields last rest is = omega (arith, ap length is, length-append (print_section fields last) rest, section-some fields last)

-- a message may begin where none has
part-nil : IsPart []
part-nil = record {
  none = λ message rest begins. nil-section begins.fields begins.last (message ++ rest) begins.whole;
  ends = inl (λ fields last rest reads. nil-section fields last rest reads.1, (print_section [] lf, [], lf, (search rules, sym (append-nil _))));
}

pub waits-none : {S : Type 0} (answers : AnswerRelation S) (has_ended : S → Bool) (now : S) → has_ended now ≡ false → Waits answers has_ended now [] [] [] now
waits-none answers has_ended now going = record { answered = conversation-none answers has_ended now []; part = part-nil; going = going }

-- ---- a read

pub gave-last : {R : Type 0} (remaining : R → Option (List ℕ)) (first old new : Counted R) (count : ℕ) (taken last : List ℕ) → HasRead remaining first old count taken
    → Consumes (remaining (inner_of old)) (remaining (inner_of new)) last → length last ≡ moved_of new
    → calls_of new ≡ raised (calls_of old) → failures_of new ≡ failures_of old → idle_of new ≡ raised_on_zero (moved_of new) (idle_of old)
    → Gave remaining first new taken last
gave-last remaining first old new count taken last read given moved calls failures idle = record {
  given = Consumes-trans _ _ _ _ _ read.given given;
  reads = read-last remaining first old new count taken last read calls idle moved;
  unfailed = failures ∙ read.unfailed;
}

-- the read gave these bytes of its buffer
pub gave-some : {R : Type 0} (remaining : R → Option (List ℕ)) (first old new : Counted R) (count moved : ℕ) (taken buf : List ℕ) → HasRead remaining first old count taken
    → Consumes (remaining (inner_of old)) (remaining (inner_of new)) (take moved buf) → moved ≤ length buf → moved_of new ≡ moved
    → calls_of new ≡ raised (calls_of old) → failures_of new ≡ failures_of old → idle_of new ≡ raised_on_zero (moved_of new) (idle_of old)
    → Gave remaining first new taken (take moved buf)
gave-some remaining first old new count moved taken buf read given fits is calls failures idle =
    gave-last remaining first old new count taken (take moved buf) read given (taken_length buf moved fits ∙ sym is) calls failures idle

-- the read gave no byte
pub answered-none : {S : Type 0} (answers : AnswerRelation S) (has_ended : S → Bool) (old now : S) (taken text part : List ℕ)
    → Waits answers has_ended old taken text part now → HasAnswered answers has_ended old taken [] text part now
answered-none answers has_ended old now taken text part waits = record {
  earlier = text;
  part = part;
  mid = now;
  later = [];
  waited = waits;
  since = rw append-nil (conversation-none answers has_ended now part);
  said = sym (append-nil text);
}

-- messages were answered that came with the read
answered-more : {S : Type 0} (answers : AnswerRelation S) (has_ended : S → Bool) (old mid new : S) (taken last text later part left : List ℕ)
    → Waits answers has_ended old taken text part mid → Conversation answers has_ended mid (part ++ last) later left new
    → HasAnswered answers has_ended old taken last (text ++ later) left new
answered-more answers has_ended old mid new taken last text later part left waits since =
    record { earlier = text; part = part; mid = mid; later = later; waited = waits; since = since; said = refl }

-- the service goes on
pub waits-more : {S : Type 0} (answers : AnswerRelation S) (has_ended : S → Bool) (old mid new : S) (taken last text later part left : List ℕ)
    → Waits answers has_ended old taken text part mid → Conversation answers has_ended mid (part ++ last) later left new → IsPart left → has_ended new ≡ false
    → Waits answers has_ended old (taken ++ last) (text ++ later) left new
waits-more answers has_ended old mid new taken last text later part left waits since part-left going =
    record { answered = conversation-append answers has_ended old mid new taken last text later part left waits.answered since; part = part-left; going = going }

-- ---- the whole input

-- at its end nothing follows
pub whole-read : {S : Type 0} (answers : AnswerRelation S) (has_ended : S → Bool) (input left : Option (List ℕ)) (old new : S) (taken text rest : List ℕ)
    → Consumes input left taken → IsAtEnd left → Waits answers has_ended old taken text rest new
    → IfSome input (λ bytes. WholeConversation answers has_ended old bytes text new)
whole-read answers has_ended None left old new taken text rest given end waits = tt
whole-read answers has_ended (Some xs) None old new taken text rest given end waits = absurd given
whole-read answers has_ended (Some xs) (Some ys) old new taken text rest given end waits =
    let all : xs ≡ taken = rw (given, end) (append-nil taken) in
    (rest, rw all waits.answered, inl waits.part.none)

-- what follows the message that ended the service changes nothing
pub whole-ended : {S : Type 0} (answers : AnswerRelation S) (has_ended : S → Bool) (input left : Option (List ℕ)) (old new : S) (taken text rest : List ℕ)
    → Consumes input left taken → Conversation answers has_ended old taken text rest new → has_ended new ≡ true
    → IfSome input (λ bytes. WholeConversation answers has_ended old bytes text new)
whole-ended answers has_ended None left old new taken text rest given answered ended = tt
whole-ended answers has_ended (Some xs) None old new taken text rest given answered ended = absurd given
whole-ended answers has_ended (Some xs) (Some ys) old new taken text rest given answered ended =
    let longer : Conversation answers has_ended old (taken ++ ys) text (rest ++ ys) new =
    rw append-nil at (conversation-append answers has_ended old new new taken ys text [] rest (rest ++ ys) answered (conversation-none answers has_ended new (rest ++ ys))) in
    (rest ++ ys, rw given longer, inr ended)

-- ---- the end

pub served-ended : {S R W : Type 0} (answers : AnswerRelation S) (has_ended : S → Bool) (remaining : R → Option (List ℕ)) (contents : W → Option (List ℕ))
    (old mid new : S) (reader reader' : Counted R) (writer between writer' : Counted W) (taken last text part left : List ℕ)
    → Gave remaining reader reader' taken last → Waits answers has_ended old taken text part mid → IsWritten contents writer between text → failures_of between ≡ failures_of writer
    → WritesAnswers answers has_ended contents (part ++ last) left mid new between writer' → has_ended new ≡ true
    → ServedToEnd answers has_ended remaining contents old new reader reader' writer writer'
served-ended answers has_ended remaining contents old mid new reader reader' writer between writer' taken last text part left read waits written unfailed told ended = record {
  before = taken;
  last = last;
  text = text ++ told.text;
  left = left;
  read = read;
  answered = answered-more answers has_ended old mid new taken last text told.text part left waits told.answered;
  ended = inr ended;
  whole = whole-ended answers has_ended (remaining (inner_of reader)) (remaining (inner_of reader')) old new (taken ++ last) (text ++ told.text) left read.given
      (conversation-append answers has_ended old mid new taken last text told.text part left waits.answered told.answered) ended;
  written = Appends-trans _ _ _ _ _ written told.whole.0;
  write_unfailed = told.whole.1 ∙ unfailed;
}

pub served-fault : {S R W : Type 0} (answers : AnswerRelation S) (has_ended : S → Bool) (remaining : R → Option (List ℕ)) (contents : W → Option (List ℕ)) (fault : ServerFault)
    (old mid new : S) (reader reader' : Counted R) (writer between writer' : Counted W) (taken last text part left : List ℕ)
    → Gave remaining reader reader' taken last → 0 < length last → Waits answers has_ended old taken text part mid → IsWritten contents writer between text → failures_of between ≡ failures_of writer
    → AnswersStream answers has_ended contents (Err fault) (part ++ last) left mid new between writer'
    → Serves answers has_ended remaining contents (Err fault) old new reader reader' writer writer'
served-fault answers has_ended remaining contents faults.BadHeader old mid new reader reader' writer between writer' taken last text part left read some waits written unfailed does = record {
  before = taken;
  last = last;
  text = text ++ does.0.text;
  left = left;
  read = read;
  answered = answered-more answers has_ended old mid new taken last text does.0.text part left waits does.0.answered;
  going = does.2;
  bad = does.1;
  written = Appends-trans _ _ _ _ _ written does.0.whole.0;
  write_unfailed = does.0.whole.1 ∙ unfailed;
}
served-fault answers has_ended remaining contents faults.ReadFault old mid new reader reader' writer between writer' taken last text part left read some waits written unfailed does = absurd does
served-fault answers has_ended remaining contents faults.WriteFault old mid new reader reader' writer between writer' taken last text part left read some waits written unfailed does = record {
  before = taken;
  last = last;
  text = text ++ does.text;
  left = does.left;
  mid = does.mid;
  read = read;
  answered = answered-more answers has_ended old mid does.mid taken last text does.text part does.left waits does.answered;
  going = does.going;
  message = does.message;
  behind = does.behind;
  begins = does.begins;
  front = does.front;
  unsaid = does.unsaid;
  answer = does.answer;
  written = rw append_assoc (Appends-trans _ _ _ _ _ written does.written);
  failed = (does.failed.0 ∙ ap raised unfailed, does.failed.1);
}
served-fault answers has_ended remaining contents faults.Memory old mid new reader reader' writer between writer' taken last text part left read some waits written unfailed does = record {
  before = taken;
  last = last;
  text = text ++ does.2.text;
  left = does.0;
  mid = does.1;
  read = read;
  some = some;
  answered = answered-more answers has_ended old mid does.1 taken last text does.2.text part does.0 waits does.2.answered;
  going = does.3;
  written = Appends-trans _ _ _ _ _ written does.2.whole.0;
  write_unfailed = does.2.whole.1 ∙ unfailed;
}
