use Rattle.std.proofs.Common.{[], ◌++◌, take, sym, ◌∙◌, inl, inr, arith, rules, append-nil}
use Rattle.std.specs.Io.KnownBytes.{Consumes}
use Rattle.std.proofs.KnownBytes.{Consumes-trans}
use Rattle.std.proofs.lemmas.Bool.Decides.{nat_tests}
use Rattle.cps_text.specs.Counted.{inner_of}
use Rattle.cps_input.proofs.ReadLemmas.{read-none, read-more, read-last}
use Rattle.cps_input.proofs.reading.read_all.Goals as goal

pub loop-init : goal.loop-init
loop-init g c = record { taken = []; read = read-none g.R.Read.remaining c.args.reader.now; come = c.requires }

pub take_bytes-requires : goal.take_bytes-requires
take_bytes-requires g c = (c.loop.invariant.taken, c.loop.invariant.come)

pub loop-preserved : goal.loop-preserved
loop-preserved g c =
    let inv = c.loop.invariant in
    let got = c.in-Some.ensures in record {
      taken = inv.taken ++ take c.in-Some.count c.read.new.buf;
      read = read-more g.R.Read.remaining c.args.reader.now c.loop.reader c.read.new.self c.loop.counter c.in-Some.count inv.taken c.read.new.buf inv.read
          got.bytes (grind (arith, nat_tests)) got.bound got.moved got.calls got.failures got.idle;
      come = c.take_bytes.ensures inv.taken inv.come;
    }

pub returns-then-count-eq0-clause-ok : goal.returns-then-count-eq0-clause-ok
returns-then-count-eq0-clause-ok g c =
    let inv = c.loop.invariant in
    let got = c.in-Some.ensures in
    let zero = c.if-count-eq0.true in
    let none : Consumes (g.R.Read.remaining (inner_of c.loop.reader)) (g.R.Read.remaining (inner_of c.read.new.self)) [] = rw zero at got.bytes in
    let consumed = rw append-nil at (Consumes-trans (g.R.Read.remaining (inner_of c.args.reader.now)) _ _ inv.taken [] inv.read.given none) in (
      inv.taken,
      record {
        given = consumed;
        ended = got.end zero (search rules);
        last = read-last g.R.Read.remaining c.args.reader.now c.loop.reader c.read.new.self c.loop.counter inv.taken [] inv.read got.calls got.idle (sym (got.moved ∙ zero));
        unfailed = got.failures ∙ inv.read.unfailed;
      },
      inv.come,
    )

pub returns-in_default-clause-early : goal.returns-in_default-clause-early
returns-in_default-clause-early g c =
    let inv = c.loop.invariant in
    let read = inv.read in
    (inv.taken, search rules, inl (search rules, read-last g.R.Read.remaining c.args.reader.now c.loop.reader c.read.new.self c.loop.counter inv.taken [] read c.in_default.ensures.calls c.in_default.ensures.idle (sym c.in_default.ensures.moved)))

pub returns-clause-early : goal.returns-clause-early
returns-clause-early g c =
    let inv = c.loop.invariant in
    let read = inv.read in
    (inv.taken, read.given, inr (read.unfailed, search rules, search rules, read.unidle))
