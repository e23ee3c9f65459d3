use Rattle.std.proofs.Common.{◌<◌, [], ◌++◌, length, take, refl, sym, ◌∙◌, inl, ⊎_elim, arith, rules, append-nil}
use Rattle.std.proofs.lemmas.Bool.Decides.{nat_tests}
use Rattle.std.proofs.lemmas.Result.{err_from_is_err_and}
use Rattle.std.proofs.KnownBytes.{Appends-nil, Appends-trans, Consumes-trans}
use Rattle.std.specs.Io.KnownBytes.{Consumes}
use Rattle.cps_text.specs.Counted.{inner_of}
use Rattle.cps_input.proofs.ReadLemmas.{read-none, read-more, taken_length}
use Rattle.cps_rpc.specs.Messages.{IsPart}
use Rattle.cps_rpc.specs.declared.fault.ServerFault.TheVariants as faults
use Rattle.cps_rpc.specs.Reads.{Gave}
use Rattle.cps_rpc.proofs.AnsweringLemmas.{writes-none}
use Rattle.cps_rpc.proofs.ServingLemmas.{waits-none, gave-last, gave-some, answered-none, waits-more, served-ended, served-fault, whole-read}
use Rattle.cps_rpc.proofs.serving.serve.Goals.{Else-count-eq0}
use Rattle.cps_rpc.proofs.serving.serve.Goals as goal

-- what a read gave that gave a byte
gave : (g : _) (c : Else-count-eq0 g) → Gave g.R.Read.remaining c.args.reader.now c.read.new.self c.loop.invariant.taken (take c.in-Some.count c.read.new.buf)
gave g c =
    let got = c.in-Some.ensures in
    gave-some g.R.Read.remaining c.args.reader.now c.loop.reader c.read.new.self c.loop.counter c.in-Some.count c.loop.invariant.taken c.read.new.buf c.loop.invariant.read
    got.bytes got.bound got.moved got.calls got.failures got.idle

some : (g : _) (c : Else-count-eq0 g) → 0 < length (take c.in-Some.count c.read.new.buf)
some g c =
    let more = c.if-count-eq0.false in
    let same = taken_length c.read.new.buf c.in-Some.count c.in-Some.ensures.bound in
    grind (arith, nat_tests)

pub loop-init : goal.loop-init
loop-init g c = record {
  taken = [];
  text = [];
  read = read-none g.R.Read.remaining c.args.reader.now;
  waits = rw c.new-stream.ensures (waits-none g.S.Service.answers g.S.Service.has_ended c.args.service.now c.requires);
  written = Appends-nil _;
  unfailed = refl;
}

pub returns-then-count-eq0 : goal.returns-then-count-eq0
returns-then-count-eq0 g c =
    let inv = c.loop.invariant in
    let got = c.in-Some.ensures in
    let zero = c.if-count-eq0.true in
    let none : Consumes (g.R.Read.remaining (inner_of c.loop.reader)) (g.R.Read.remaining (inner_of c.read.new.self)) [] = rw zero at got.bytes in
    let end = got.end zero (search rules) in
    record {
      before = inv.taken;
      last = [];
      text = inv.text;
      left = c.loop.stream;
      read = gave-last g.R.Read.remaining c.args.reader.now c.loop.reader c.read.new.self c.loop.counter inv.taken [] inv.read none (sym (got.moved ∙ zero)) got.calls got.failures got.idle;
      answered = answered-none g.S.Service.answers g.S.Service.has_ended c.args.service.now c.loop.service inv.taken inv.text c.loop.stream inv.waits;
      ended = inl (inv.waits.part, (refl, end));
      whole = whole-read g.S.Service.answers g.S.Service.has_ended (g.R.Read.remaining (inner_of c.args.reader.now)) (g.R.Read.remaining (inner_of c.read.new.self)) c.args.service.now c.loop.service
          inv.taken inv.text c.loop.stream (rw append-nil at (Consumes-trans _ _ _ _ _ inv.read.given none)) end inv.waits;
      written = inv.written;
      write_unfailed = inv.unfailed;
    }

pub returns-in_err-extend : goal.returns-in_err-extend
returns-in_err-extend g c =
    let p = err_from_is_err_and c.from_residual.result c.from_residual.ensures.1 in
    let inv = c.loop.invariant in
    let last = take c.in-Some.count c.read.new.buf in
    let read = (goal.at.returns-in_err-extend g c).Else-count-eq0 in
    rw (p.1, p.2) (served-fault g.S.Service.answers g.S.Service.has_ended g.R.Read.remaining g.W.Write.contents faults.Memory
    c.args.service.now c.loop.service c.loop.service c.args.reader.now c.read.new.self c.args.writer.now c.loop.writer c.loop.writer
    inv.taken last inv.text c.loop.stream (c.loop.stream ++ last)
    (gave g read) (some g read) inv.waits inv.written inv.unfailed
    (c.loop.stream ++ last, c.loop.service, writes-none g.S.Service.answers g.S.Service.has_ended g.W.Write.contents (c.loop.stream ++ last) c.loop.service c.loop.writer, inv.waits.going))

pub returns-in_err-answer_messages : goal.returns-in_err-answer_messages
returns-in_err-answer_messages g c =
    let p = err_from_is_err_and c.from_residual-in_err-answer_messages.result c.from_residual-in_err-answer_messages.ensures.1 in
    let inv = c.loop.invariant in
    let read = (goal.at.returns-in_err-answer_messages g c).Else-count-eq0 in
    rw (p.1, p.2) (served-fault g.S.Service.answers g.S.Service.has_ended g.R.Read.remaining g.W.Write.contents c.in_err-answer_messages.field-0.0
    c.args.service.now c.loop.service c.answer_messages.new.service c.args.reader.now c.read.new.self c.args.writer.now c.loop.writer c.answer_messages.new.writer
    inv.taken (take c.in-Some.count c.read.new.buf) inv.text c.loop.stream c.answer_messages.new.stream
    (gave g read) (some g read) inv.waits inv.written inv.unfailed (rw c.in_ok-extend.ensures.ok at c.in_err-answer_messages.ensures))

pub returns-then-has_ended : goal.returns-then-has_ended
returns-then-has_ended g c =
    let inv = c.loop.invariant in
    let does = rw c.in_ok-extend.ensures.ok at c.in_ok-answer_messages.ensures in
    let read = (goal.at.returns-then-has_ended g c).Else-count-eq0 in
    served-ended g.S.Service.answers g.S.Service.has_ended g.R.Read.remaining g.W.Write.contents
    c.args.service.now c.loop.service c.answer_messages.new.service c.args.reader.now c.read.new.self c.args.writer.now c.loop.writer c.answer_messages.new.writer
    inv.taken (take c.in-Some.count c.read.new.buf) inv.text c.loop.stream c.answer_messages.new.stream
    (gave g read) inv.waits inv.written inv.unfailed does.0 (sym c.has_ended.ensures ∙ c.if-has_ended.true)

pub loop-preserved : goal.loop-preserved
loop-preserved g c =
    let inv = c.loop.invariant in
    let got = c.in-Some.ensures in
    let last = take c.in-Some.count c.read.new.buf in
    let does = rw c.in_ok-extend.ensures.ok at c.in_ok-answer_messages.ensures in
    let going = sym c.has_ended.ensures ∙ c.if-has_ended.false in
    let part : IsPart c.answer_messages.new.stream = ⊎_elim (λ goes. goes.0) (λ ended. absurd (let e = ended in let f = going in cc)) does.1 in
    record {
      taken = inv.taken ++ last;
      text = inv.text ++ does.0.text;
      read = read-more g.R.Read.remaining c.args.reader.now c.loop.reader c.read.new.self c.loop.counter c.in-Some.count inv.taken c.read.new.buf inv.read
          got.bytes (let more = c.if-count-eq0.false in grind (arith, nat_tests)) got.bound got.moved got.calls got.failures got.idle;
      waits = waits-more g.S.Service.answers g.S.Service.has_ended c.args.service.now c.loop.service c.answer_messages.new.service inv.taken last inv.text does.0.text
          c.loop.stream c.answer_messages.new.stream inv.waits does.0.answered part going;
      written = Appends-trans _ _ _ _ _ inv.written does.0.whole.0;
      unfailed = does.0.whole.1 ∙ inv.unfailed;
    }
