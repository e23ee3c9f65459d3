use Rattle.std.proofs.Common.{arith, rules, ◌≡◌, ◌+◌, ◌<◌, ◌≤◌, length, take, refl, ap, sym, ◌∙◌}
use Rattle.std.specs.Prelude.{sum}
use Rattle.cps_state.specs.Work.{counted_on}
use Rattle.cps_final.specs.Changes.{no_change}
use Rattle.cps_final.specs.Code.Kept.{changes_in}
use Rattle.cps_chunk.specs.Code.Chunk.{lengths_of}
use Rattle.cps_edit.proofs.ReplayLemmas.{counted-left, counted-before}
use Rattle.cps_edit.proofs.PassOneLemmas.{none-more}
use Rattle.cps_chunk.specs.Code.Replay.{now_by}
use Rattle.cps_chunk.specs.Code.Walk.{stood_at}
use Rattle.cps_chunk.proofs.GoLemmas.{ended, no-more}
use Rattle.cps_chunk.proofs.WalkLemmas.{lengths-next, same-long}
use Rattle.cps_chunk.proofs.OverLemmas.{all-over, chunk-ends, count-all, lengths-upto, looked-over, looked-within, looks-all, next-count, next-looks, next-news, next-state, none-left, none-over, stands-there, still-still}
use Rattle.cps_chunk.proofs.walk.Walk.go_over_chunks.Goals as goal

pub loop-chunk-init : goal.loop-chunk-init
loop-chunk-init c = record {
  walk = record { walk = c.requires.walk; base = refl; lengths = refl };
  line = c.requires.chunks.first.line;
  news = refl;
  state = refl;
  sought = c.in_ok-sought.ensures;
  present = c.requires.present;
  ones = refl;
  ones_least = omega arith;
  twos = refl;
  looked = omega arith;
  looked_least = omega arith;
}

-- ---- nothing is changed any more

pub returns-then-is_empty-clause-over : goal.returns-then-is_empty-clause-over
returns-then-is_empty-clause-over c =
    let inv = c.loop-chunk.invariant in
    let le : c.loop-chunk.line ≤ c.args.to =
    omega (arith, inv.line, c.requires.chunks.past.line, lengths-upto c.args.self.now.chunks.items c.loop-chunk.chunk c.args.past (omega (arith, c.loop-chunk-test.true))) in
    let none : changes_in c.loop-chunk.self.replay.log.changes ≡ no_change =
    ap changes_in (sym c.changes.ensures) ∙ c.is_empty.ensures.changes (search rules) in
    ended c.args.self.now c.loop-chunk.self c.args.first.line c.loop-chunk.line c.args.to c.requires.walk.base le none inv.walk.base inv.news inv.state inv.present

pub returns-then-is_empty-clause-steps : goal.returns-then-is_empty-clause-steps
returns-then-is_empty-clause-steps c =
    let inv = c.loop-chunk.invariant in
    let le : c.loop-chunk.line ≤ c.args.to =
    omega (arith, inv.line, c.requires.chunks.past.line, lengths-upto c.args.self.now.chunks.items c.loop-chunk.chunk c.args.past (omega (arith, c.loop-chunk-test.true))) in
    let none : changes_in c.loop-chunk.self.replay.log.changes ≡ no_change =
    ap changes_in (sym c.changes.ensures) ∙ c.is_empty.ensures.changes (search rules) in
    let rest = ap length (no-more c.args.self.now c.loop-chunk.self c.args.first.line c.loop-chunk.line c.args.to c.requires.walk.base le none) in
    let ones = none-more c.loop-chunk.work.ones ∙ ap (counted_on c.loop-chunk.work.ones) (sym rest) ∙ inv.ones in
    record {
      ones = ones;
      twos = omega (arith, inv.twos);
      ones_least = inv.ones_least;
      twos_least = omega (arith, inv.twos);
      ones_most = omega (arith, ones);
      twos_most = omega (arith, inv.twos);
    }

pub returns-then-is_empty-clause-looked : goal.returns-then-is_empty-clause-looked
returns-then-is_empty-clause-looked c =
    let inv = c.loop-chunk.invariant in
    record { least = inv.looked_least; most = none-left _ _ _ inv.looked }

-- ---- one chunk more

pub index-requires : goal.index-requires
index-requires c =
    let inv = c.loop-chunk.invariant in
    omega (arith, c.loop-chunk-test.true, c.requires.chunks.past.within, same-long c.args.self.now.chunks.items c.loop-chunk.self.chunks.items inv.walk.lengths)

pub overflow_add-end : goal.overflow_add-end
overflow_add-end c =
    let old = c.args.self.now in
    let mid = c.loop-chunk.self in
    let inv = c.loop-chunk.invariant in
    let i = c.loop-chunk.chunk in
    let within : i < length mid.chunks.items = omega (arith, c.loop-chunk-test.true, c.requires.chunks.past.within, same-long old.chunks.items mid.chunks.items inv.walk.lengths) in
    let next : sum (take (i + 1) (lengths_of mid.chunks.items)) ≡ sum (take i (lengths_of mid.chunks.items)) + c.index.result.now.lines =
    lengths-next mid.chunks.items i c.index.result.now within c.index.ensures in
    omega (
      arith,
      next,
      inv.line,
      ap (λ ns. sum (take i ns)) inv.walk.lengths,
      ap (λ ns. sum (take (i + 1) ns)) inv.walk.lengths,
      c.requires.chunks.past.line,
      lengths-upto old.chunks.items (i + 1) c.args.past (omega (arith, c.loop-chunk-test.true)),
    )

pub go_over_sought-requires-clause-walk : goal.go_over_sought-requires-clause-walk
go_over_sought-requires-clause-walk c = c.loop-chunk.invariant.walk.walk

pub go_over_sought-requires-clause-chunk : goal.go_over_sought-requires-clause-chunk
go_over_sought-requires-clause-chunk c =
    let inv = c.loop-chunk.invariant in
    let past = c.requires.chunks.past.within in
    record {
      stands = stands-there c.args.self.now.chunks.items c.loop-chunk.self.chunks.items c.loop-chunk.chunk c.loop-chunk.line c.args.past inv.walk.lengths inv.line c.loop-chunk-test.true past;
      within = omega (arith, c.loop-chunk-test.true, past, same-long c.args.self.now.chunks.items c.loop-chunk.self.chunks.items inv.walk.lengths);
    }

pub go_over_sought-requires-clause-end : goal.go_over_sought-requires-clause-end
go_over_sought-requires-clause-end c =
    let old = c.args.self.now in
    let mid = c.loop-chunk.self in
    let inv = c.loop-chunk.invariant in
    let i = c.loop-chunk.chunk in
    let within : i < length mid.chunks.items = omega (arith, c.loop-chunk-test.true, c.requires.chunks.past.within, same-long old.chunks.items mid.chunks.items inv.walk.lengths) in
    let next : sum (take (i + 1) (lengths_of mid.chunks.items)) ≡ sum (take i (lengths_of mid.chunks.items)) + c.index.result.now.lines =
    lengths-next mid.chunks.items i c.index.result.now within c.index.ensures in
    omega (arith, next, inv.line, ap (λ ns. sum (take i ns)) inv.walk.lengths)

pub go_over_sought-requires-clause-sought : goal.go_over_sought-requires-clause-sought
go_over_sought-requires-clause-sought c = c.loop-chunk.invariant.sought

pub go_over_sought-requires-clause-present : goal.go_over_sought-requires-clause-present
go_over_sought-requires-clause-present c = c.loop-chunk.invariant.present

pub returns-in_err-go_over_sought-clause-walk : goal.returns-in_err-go_over_sought-clause-walk
returns-in_err-go_over_sought-clause-walk c = still-still _ _ _ c.loop-chunk.invariant.walk c.go_over_sought.ensures.walk

pub returns-in_err-go_over_sought-clause-steps : goal.returns-in_err-go_over_sought-clause-steps
returns-in_err-go_over_sought-clause-steps c =
    let inv = c.loop-chunk.invariant in
    let new = c.in_err-go_over_sought.ensures.steps in
    let count = count-all c.args.self.now c.loop-chunk.self c.go_over_sought.new.self c.requires.walk inv.walk c.loop-chunk.chunk c.args.past c.loop-chunk.line _ c.args.to c.index.result.now c.loop-chunk-test.true c.requires.chunks.past.within c.index.ensures inv.line refl c.requires.chunks.past.line in
    record {
      ones = search rules;
      twos = search rules;
      ones_least = omega (arith, inv.ones_least, new.ones_least);
      twos_least = omega (arith, inv.twos, new.twos_least);
      ones_most = counted-before _ _ _ _ _ _ new.ones_most count inv.ones;
      twos_most = omega (arith, inv.twos, new.twos_most);
    }

pub returns-in_err-go_over_sought-clause-looked : goal.returns-in_err-go_over_sought-clause-looked
returns-in_err-go_over_sought-clause-looked c =
    let inv = c.loop-chunk.invariant in
    let new = c.go_over_sought.ensures.looked in
    let looks = looks-all c.args.self.now c.loop-chunk.self c.go_over_sought.new.self c.requires.walk inv.walk c.loop-chunk.chunk c.args.past c.loop-chunk.line _ c.args.to c.index.result.now c.loop-chunk-test.true c.requires.chunks.past.within c.index.ensures inv.line refl c.requires.chunks.past.line in
    record { least = omega (arith, inv.looked_least, new.least); most = looked-within _ _ _ _ _ _ new.most looks inv.looked }

pub loop-chunk-preserved : goal.loop-chunk-preserved
loop-chunk-preserved c =
    let inv = c.loop-chunk.invariant in
    let new = c.in_ok-go_over_sought.ensures in
    let still = c.go_over_sought.ensures.walk in
    let next : sum (take (c.loop-chunk.chunk + 1) (lengths_of c.args.self.now.chunks.items)) ≡ c.loop-chunk.line + c.index.result.now.lines = chunk-ends c.args.self.now c.loop-chunk.self c.go_over_sought.new.self c.requires.walk inv.walk c.loop-chunk.chunk c.args.past c.loop-chunk.line _ c.args.to c.index.result.now c.loop-chunk-test.true c.requires.chunks.past.within c.index.ensures inv.line refl c.requires.chunks.past.line in
    record {
      walk = still-still _ _ _ inv.walk still;
      line = sym next;
      news = next-news c.args.self.now c.loop-chunk.self c.go_over_sought.new.self c.requires.walk inv.walk c.loop-chunk.chunk c.args.past c.loop-chunk.line _ c.args.to c.index.result.now c.loop-chunk-test.true c.requires.chunks.past.within c.index.ensures inv.line refl c.requires.chunks.past.line new.over still.base _ inv.news;
      state = next-state c.args.self.now c.loop-chunk.self c.go_over_sought.new.self c.requires.walk inv.walk c.loop-chunk.chunk c.args.past c.loop-chunk.line _ c.args.to c.index.result.now c.loop-chunk-test.true c.requires.chunks.past.within c.index.ensures inv.line refl c.requires.chunks.past.line new.over still.base _ inv.state;
      sought = new.sought;
      present = new.over.present;
      ones = counted-left _ _ _ _ _ _ new.steps.ones (next-count c.args.self.now c.loop-chunk.self c.go_over_sought.new.self c.requires.walk inv.walk c.loop-chunk.chunk c.args.past c.loop-chunk.line _ c.args.to c.index.result.now c.loop-chunk-test.true c.requires.chunks.past.within c.index.ensures inv.line refl c.requires.chunks.past.line new.over still.base) inv.ones;
      ones_least = omega (arith, inv.ones_least, new.steps.ones_least);
      twos = omega (arith, inv.twos, new.steps.twos_least, new.steps.twos_most);
      looked = looked-over _ _ _ _ _ _ new.looked.most (next-looks c.args.self.now c.loop-chunk.self c.go_over_sought.new.self c.requires.walk inv.walk c.loop-chunk.chunk c.args.past c.loop-chunk.line _ c.args.to c.index.result.now c.loop-chunk-test.true c.requires.chunks.past.within c.index.ensures inv.line refl c.requires.chunks.past.line new.over still.base) inv.looked;
      looked_least = omega (arith, inv.looked_least, new.looked.least);
    }

-- ---- all of them

pub returns-clause-over : goal.returns-clause-over
returns-clause-over c =
    let inv = c.loop-chunk.invariant in
    let last : c.loop-chunk.chunk ≡ c.args.past = omega (arith, c.loop-chunk-test.false, c.requires.chunks.ordered, c.loop-chunk.auto.chunk-end) in
    let same : c.loop-chunk.line ≡ c.args.to = inv.line ∙ ap (λ k. sum (take k (lengths_of c.args.self.now.chunks.items))) last ∙ sym c.requires.chunks.past.line in
    all-over c.args.self.now c.loop-chunk.self c.args.first.line c.loop-chunk.line c.args.to same inv.walk.base inv.news inv.state inv.present

pub returns-clause-steps : goal.returns-clause-steps
returns-clause-steps c =
    let inv = c.loop-chunk.invariant in
    let last : c.loop-chunk.chunk ≡ c.args.past = omega (arith, c.loop-chunk-test.false, c.requires.chunks.ordered, c.loop-chunk.auto.chunk-end) in
    let same : c.loop-chunk.line ≡ c.args.to = inv.line ∙ ap (λ k. sum (take k (lengths_of c.args.self.now.chunks.items))) last ∙ sym c.requires.chunks.past.line in
    let rest = none-over (now_by c.loop-chunk.self.replay.log (stood_at c.args.self.now.base c.loop-chunk.line)) c.loop-chunk.line c.args.to c.args.self.now.base.lines.now c.args.self.now.base.traces.now same in
    let ones = none-more c.loop-chunk.work.ones ∙ ap (counted_on c.loop-chunk.work.ones) (sym rest) ∙ inv.ones in
    record {
      ones = ones;
      twos = omega (arith, inv.twos);
      ones_least = inv.ones_least;
      twos_least = omega (arith, inv.twos);
      ones_most = omega (arith, ones);
      twos_most = omega (arith, inv.twos);
    }

pub returns-clause-looked : goal.returns-clause-looked
returns-clause-looked c =
    let inv = c.loop-chunk.invariant in
    record { least = inv.looked_least; most = none-left _ _ _ inv.looked }
