use Rattle.std.proofs.Common.{◌≡◌, List, ℕ}
use Rattle.cps_text.specs.Counted.{failures_of}
use Rattle.cps_input.specs.Reads.{HasRead}
use Rattle.cps_rpc.specs.Conversation.{Waits}
use Rattle.cps_rpc.specs.Written.{IsWritten}
use Rattle.cps_rpc.proofs.serving.serve.Given as goal

abbrev pub invariant-loop : goal.invariant-loop
invariant-loop g l = record {
  taken : List ℕ;
  text : List ℕ;
  read : HasRead g.R.Read.remaining l.fn.reader l.reader l.counter taken;
  waits : Waits g.S.Service.answers g.S.Service.has_ended l.fn.service taken text l.stream l.service;
  written : IsWritten g.W.Write.contents l.fn.writer l.writer text;
  unfailed : failures_of l.writer ≡ failures_of l.fn.writer;
}
