use Rattle.std.proofs.Common.{inr, ◌∙◌, sym, ap, Err}
use Rattle.std.proofs.lemmas.Result.{err_from_is_err_and}
use Rattle.cps_rpc.specs.Messages.{BeginsWithMessage}
use Rattle.cps_rpc.proofs.AnsweringLemmas.{writes-more, stream-fault}
use Rattle.cps_rpc.proofs.answering.answer_messages.Goals as goal

pub returns-in_err-message : goal.returns-in_err-message
returns-in_err-message g c =
    let p = err_from_is_err_and c.from_residual.result c.from_residual.ensures.1 in
    let now = c.loop-message.invariant in
    rw (p.1, p.2, c.in_err-message.ensures.err) (stream-fault g.S.Service.answers g.S.Service.has_ended g.W.Write.contents c.in_err-message.field-0.0 c.args.stream.now c.loop-message.stream
    c.args.service.now c.loop-message.service c.args.writer.now c.loop-message.writer now.told now.going (λ bad. c.in_err-message.ensures.header (ap Err bad)))

pub loop-message-preserved : goal.loop-message-preserved
loop-message-preserved g c =
    let now = c.loop-message.invariant in
    let begins : BeginsWithMessage c.loop-message.stream c.in-Some.message.items c.take.new.self = rw c.in-Some.is at c.in_ok-message.ensures.message in record {
      told = writes-more g.S.Service.answers g.S.Service.has_ended g.W.Write.contents c.args.stream.now c.loop-message.stream c.take.new.self c.in-Some.message.items
          c.args.service.now c.loop-message.service c.answer_message.new.service c.args.writer.now c.loop-message.writer c.answer_message.new.writer
          now.told now.going begins (rw c.deref.ensures.value at c.in_ok-answer_message.ensures);
      going = sym c.has_ended.ensures ∙ c.if-has_ended.false;
    }

pub returns-then-has_ended : goal.returns-then-has_ended
returns-then-has_ended g c =
    let now = c.loop-message.invariant in
    let begins : BeginsWithMessage c.loop-message.stream c.in-Some.message.items c.take.new.self = rw c.in-Some.is at c.in_ok-message.ensures.message in (
      writes-more g.S.Service.answers g.S.Service.has_ended g.W.Write.contents c.args.stream.now c.loop-message.stream c.take.new.self c.in-Some.message.items
          c.args.service.now c.loop-message.service c.answer_message.new.service c.args.writer.now c.loop-message.writer c.answer_message.new.writer
          now.told now.going begins (rw c.deref.ensures.value at c.in_ok-answer_message.ensures),
      inr (sym c.has_ended.ensures ∙ c.if-has_ended.true),
    )
