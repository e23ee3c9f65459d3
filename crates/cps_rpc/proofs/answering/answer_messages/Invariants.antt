use Rattle.std.proofs.Common.{◌≡◌, false, length}
use Rattle.cps_rpc.specs.Code.Answering.{WritesAnswers}
use Rattle.cps_rpc.proofs.answering.answer_messages.Given as goal

abbrev pub invariant-loop-message : goal.invariant-loop-message
invariant-loop-message g l = record {
  told : WritesAnswers g.S.Service.answers g.S.Service.has_ended g.W.Write.contents l.fn.stream l.stream l.fn.service l.service l.fn.writer l.writer;
  going : g.S.Service.has_ended l.service ≡ false;
}

abbrev pub decreases-loop-message : goal.decreases-loop-message
decreases-loop-message g l = length l.stream
