use Rattle.std.proofs.Common.{arith, rules, ◌≡◌, ◌+◌, ◌<◌, ◌≤◌, ℕ, length, take, refl, sym, ap, subst, ◌∙◌}
use Rattle.std.specs.Prelude.{sum}
use Rattle.cps_state.specs.Work.{counted_on}
use Rattle.cps_chunk.specs.Code.Chunk.{lengths_of}
use Rattle.cps_chunk.specs.declared.walk.Baseline.{Baseline}
use Rattle.cps_chunk.specs.Code.Along.{GoesAlong, fronts_along, looks_of, reached, replayed_along, span}
use Rattle.cps_chunk.specs.Code.Walk.{cursor}
use Rattle.cps_chunk.proofs.AlongLemmas.{along-count, along-join, along-most, along-none, looks-more, may-still, mid-end, old-end, part-fits, part-inside, part-lt, replayed-empty}
use Rattle.cps_chunk.proofs.CountingLemmas.{counted-most, counted-next, looked-more}
use Rattle.cps_chunk.proofs.OverLemmas.{still-still}
use Rattle.cps_chunk.proofs.SpanLemmas.{looks-upto}
use Rattle.cps_chunk.proofs.WalkLemmas.{as-long, lengths-all}
use Rattle.cps_chunk.proofs.walk.Walk.go_along.Goals as goal

pub loop-chunk-init : goal.loop-chunk-init
loop-chunk-init c =
    let old = c.args.self.now in
    let lines = c.args.span in
    let begins : lines.from ≡ reached lines 0 = omega (arith, c.requires.span.ordered) in
    let none : length (replayed_along old c.args.position (span lines.from (reached lines 0))) ≡ 0 =
    ap (λ k. length (replayed_along old c.args.position (span lines.from k))) (sym begins) ∙ ap length (replayed-empty old c.args.position lines.from) in
    record {
      walk = record { walk = c.requires.walk; base = refl; lengths = refl };
      line = refl;
      along = along-none old c.args.position lines.from (reached lines 0) begins c.requires.span.may;
      ones = omega (arith, none);
      ones_least = omega arith;
      twos = refl;
      looked = omega arith;
      looked_least = omega arith;
    }

-- ---- one chunk

pub overflow_add-end : goal.overflow_add-end
overflow_add-end c =
    let old = c.args.self.now in
    let inv = c.loop-chunk.invariant in
    let lt : c.loop-chunk.chunk < length old.chunks.items = omega (arith, c.loop-chunk-test.true, c.end-past.ensures.chunk) in
    let fits : c.loop-chunk.line + c.index.result.now.lines ≤ c.end-past.result.line =
    omega (arith, part-fits old c.loop-chunk.self inv.walk c.loop-chunk.chunk c.loop-chunk.line c.index.result.now lt c.index.ensures inv.line c.requires.walk, c.end-past.ensures.line) in
    first_of (search rules, omega (arith, fits, c.end-past.type_inv), omega (arith, fits))

pub go_along_part-requires-clause-part : goal.go_along_part-requires-clause-part
go_along_part-requires-clause-part c =
    let inv = c.loop-chunk.invariant in
    let size = ap (λ (b : Baseline). length b.lines.now) inv.walk.base in
    record {
      ordered = omega (arith, c.reached.ensures, c.reached-in-loop-chunk.ensures);
      within = omega (arith, c.reached-in-loop-chunk.ensures, c.requires.span.ordered, c.requires.span.within, size);
      may = may-still c.args.self.now c.loop-chunk.self c.args.position _ inv.walk.base c.requires.span.may inv.along;
    }

pub go_along_part-requires-clause-cursor : goal.go_along_part-requires-clause-cursor
go_along_part-requires-clause-cursor c =
    let old = c.args.self.now in
    let inv = c.loop-chunk.invariant in
    let lt : c.loop-chunk.chunk < length old.chunks.items = omega (arith, c.loop-chunk-test.true, c.end-past.ensures.chunk) in
    let inner = part-lt old c.loop-chunk.self inv.walk c.loop-chunk.chunk c.loop-chunk.line c.index.result.now lt c.index.ensures inv.line in
    record {
      stands = record { within = omega (arith, inner); line = inv.line ∙ ap (λ ns. sum (take c.loop-chunk.chunk ns)) (sym inv.walk.lengths) };
      within = inner;
    }

pub go_along_part-requires-clause-inside : goal.go_along_part-requires-clause-inside
go_along_part-requires-clause-inside c some =
    let old = c.args.self.now in
    let inv = c.loop-chunk.invariant in
    let lines = c.args.span in
    let lt : c.loop-chunk.chunk < length old.chunks.items = omega (arith, c.loop-chunk-test.true, c.end-past.ensures.chunk) in
    let end = mid-end old c.loop-chunk.self inv.walk c.loop-chunk.chunk c.loop-chunk.line c.index.result.now lt c.index.ensures inv.line in
    let inside = part-inside lines.from lines.to c.loop-chunk.line (c.loop-chunk.line + c.index.result.now.lines) c.requires.span.ordered (omega arith)
    (omega (arith, some, c.reached.ensures, c.reached-in-loop-chunk.ensures)) in
    record {
      begins = omega (arith, inside.0, c.reached.ensures);
      ends = omega (arith, inside.1, c.reached-in-loop-chunk.ensures, end);
    }

pub returns-in_err-go_along_part-clause-walk : goal.returns-in_err-go_along_part-clause-walk
returns-in_err-go_along_part-clause-walk c = still-still _ _ _ c.loop-chunk.invariant.walk c.go_along_part.ensures.walk

pub returns-in_err-go_along_part-clause-steps : goal.returns-in_err-go_along_part-clause-steps
returns-in_err-go_along_part-clause-steps c =
    let old = c.args.self.now in
    let mid = c.loop-chunk.self in
    let inv = c.loop-chunk.invariant in
    let lines = c.args.span in
    let new = c.in_err-go_along_part.ensures.steps in
    let a = c.reached.result in
    let b = c.reached-in-loop-chunk.result in
    let here : a ≡ reached lines c.loop-chunk.line = c.reached.ensures in
    let there = c.reached-in-loop-chunk.ensures in
    let along : GoesAlong old mid c.args.position (span lines.from a) = subst (λ (k : ℕ). GoesAlong old mid c.args.position (span lines.from k)) (sym here) inv.along in
    let most : b ≤ lines.to = omega (arith, there, c.requires.span.ordered) in
    let parts = along-count old mid c.args.position lines.from a b c.requires.walk.base inv.walk.base (omega (arith, here)) (omega (arith, here, there)) (omega (arith, most, c.requires.span.within)) along in
    let all = along-most old c.args.position lines.from b lines.to c.requires.walk.base (omega (arith, there)) most c.requires.span.within in
    let ones = subst (λ (k : ℕ). c.loop-chunk.work.ones ≡ counted_on c.args.work.now.ones (length (replayed_along old c.args.position (span lines.from k)))) (sym here) inv.ones in
    record {
      ones = search rules;
      twos = search rules;
      ones_least = omega (arith, inv.ones_least, new.ones_least);
      twos_least = omega (arith, inv.twos, new.twos_least);
      ones_most = counted-most _ _ _ _ _ _ ones new.ones_most (omega (arith, parts, all));
      twos_most = omega (arith, inv.twos, new.twos_most);
    }

pub returns-in_err-go_along_part-clause-looked : goal.returns-in_err-go_along_part-clause-looked
returns-in_err-go_along_part-clause-looked c =
    let old = c.args.self.now in
    let mid = c.loop-chunk.self in
    let inv = c.loop-chunk.invariant in
    let lines = c.args.span in
    let i = c.loop-chunk.chunk in
    let line = c.loop-chunk.line in
    let d = c.index.result.now in
    let lt : i < length old.chunks.items = omega (arith, c.loop-chunk-test.true, c.end-past.ensures.chunk) in
    let more = looks-more old mid inv.walk i line d lt c.index.ensures inv.line c.args.position lines c.requires.walk c.requires.span.ordered inv.along in
    let same : looks_of mid c.args.position (cursor i line) (span c.reached.result c.reached-in-loop-chunk.result)
    ≡ looks_of mid c.args.position (cursor i line) (span (reached lines line) (reached lines (line + d.lines))) =
    (λ j. looks_of mid c.args.position (cursor i line) (span (c.reached.ensures j) (c.reached-in-loop-chunk.ensures j))) in
    let upto = looks-upto lines (lengths_of old.chunks.items) (i + 1) (fronts_along old c.args.position lines) old.base.traces.now in
    record {
      least = omega (arith, inv.looked_least, c.go_along_part.ensures.looked.least);
      most = looked-more _ _ _ _ _ _ inv.looked c.go_along_part.ensures.looked.most (omega (arith, more, same, upto));
    }

pub loop-chunk-preserved : goal.loop-chunk-preserved
loop-chunk-preserved c =
    let old = c.args.self.now in
    let mid = c.loop-chunk.self in
    let next = c.go_along_part.new.self in
    let inv = c.loop-chunk.invariant in
    let lines = c.args.span in
    let i = c.loop-chunk.chunk in
    let line = c.loop-chunk.line in
    let d = c.index.result.now in
    let lt : i < length old.chunks.items = omega (arith, c.loop-chunk-test.true, c.end-past.ensures.chunk) in
    let new = c.in_ok-go_along_part.ensures in
    let a = c.reached.result in
    let b = c.reached-in-loop-chunk.result in
    let here : a ≡ reached lines line = c.reached.ensures in
    let there : b ≡ reached lines (line + d.lines) = c.reached-in-loop-chunk.ensures in
    let along : GoesAlong old mid c.args.position (span lines.from a) = subst (λ (k : ℕ). GoesAlong old mid c.args.position (span lines.from k)) (sym here) inv.along in
    let most : b ≤ lines.to = omega (arith, there, c.requires.span.ordered) in
    let parts = along-count old mid c.args.position lines.from a b c.requires.walk.base inv.walk.base (omega (arith, here)) (omega (arith, here, there)) (omega (arith, most, c.requires.span.within)) along in
    let joined = along-join old mid next c.args.position lines.from a b c.requires.walk.base inv.walk.base (omega (arith, here)) (omega (arith, here, there)) (omega (arith, most, c.requires.span.within)) along new.along in
    let ones = subst (λ (k : ℕ). c.loop-chunk.work.ones ≡ counted_on c.args.work.now.ones (length (replayed_along old c.args.position (span lines.from k)))) (sym here) inv.ones in
    let more = looks-more old mid inv.walk i line d lt c.index.ensures inv.line c.args.position lines c.requires.walk c.requires.span.ordered inv.along in
    let same : looks_of mid c.args.position (cursor i line) (span a b) ≡ looks_of mid c.args.position (cursor i line) (span (reached lines line) (reached lines (line + d.lines))) =
    (λ j. looks_of mid c.args.position (cursor i line) (span (here j) (there j))) in
    record {
      walk = still-still _ _ _ inv.walk c.go_along_part.ensures.walk;
      line = sym (old-end old mid inv.walk i line d lt c.index.ensures inv.line);
      along = subst (λ (k : ℕ). GoesAlong old next c.args.position (span lines.from k)) there joined;
      ones = subst (λ (k : ℕ). c.go_along_part.new.work.ones ≡ counted_on c.args.work.now.ones (length (replayed_along old c.args.position (span lines.from k)))) there
          (counted-next _ _ _ _ _ _ ones new.steps.ones parts);
      ones_least = omega (arith, inv.ones_least, new.steps.ones_least);
      twos = omega (arith, inv.twos, new.steps.twos);
      looked = looked-more _ _ _ _ _ _ inv.looked c.go_along_part.ensures.looked.most (omega (arith, more, same));
      looked_least = omega (arith, inv.looked_least, c.go_along_part.ensures.looked.least);
    }

-- ---- all of them

pub returns-clause-along : goal.returns-clause-along
returns-clause-along c =
    let old = c.args.self.now in
    let lines = c.args.span in
    let inv = c.loop-chunk.invariant in
    let past : length old.chunks.items ≤ c.loop-chunk.chunk = omega (arith, c.loop-chunk-test.false, c.end-past.ensures.chunk) in
    let all = lengths-all old.base.hashing old.chunks.items old.base.traces.now c.loop-chunk.chunk past c.requires.walk.chunks in
    let end : reached lines c.loop-chunk.line ≡ lines.to =
    omega (arith, inv.line, all, as-long old.base.lines.now old.base.traces.now c.requires.walk.base.did, c.requires.span.within, c.requires.span.ordered) in
    subst (λ (k : ℕ). GoesAlong old c.loop-chunk.self c.args.position (span lines.from k)) end inv.along

pub returns-clause-steps : goal.returns-clause-steps
returns-clause-steps c =
    let old = c.args.self.now in
    let lines = c.args.span in
    let inv = c.loop-chunk.invariant in
    let past : length old.chunks.items ≤ c.loop-chunk.chunk = omega (arith, c.loop-chunk-test.false, c.end-past.ensures.chunk) in
    let all = lengths-all old.base.hashing old.chunks.items old.base.traces.now c.loop-chunk.chunk past c.requires.walk.chunks in
    let end : reached lines c.loop-chunk.line ≡ lines.to =
    omega (arith, inv.line, all, as-long old.base.lines.now old.base.traces.now c.requires.walk.base.did, c.requires.span.within, c.requires.span.ordered) in
    let ones = subst (λ (k : ℕ). c.loop-chunk.work.ones ≡ counted_on c.args.work.now.ones (length (replayed_along old c.args.position (span lines.from k)))) end inv.ones in
    record {
      ones = ones;
      twos = omega (arith, inv.twos);
      ones_least = inv.ones_least;
      twos_least = omega (arith, inv.twos);
      ones_most = omega (arith, ones);
      twos_most = omega (arith, inv.twos);
    }

pub returns-clause-looked : goal.returns-clause-looked
returns-clause-looked c =
    let old = c.args.self.now in
    let lines = c.args.span in
    let inv = c.loop-chunk.invariant in
    let upto = looks-upto lines (lengths_of old.chunks.items) c.loop-chunk.chunk (fronts_along old c.args.position lines) old.base.traces.now in
    record { least = inv.looked_least; most = omega (arith, inv.looked, upto) }
