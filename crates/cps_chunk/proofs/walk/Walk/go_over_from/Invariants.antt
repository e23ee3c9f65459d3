use Rattle.std.proofs.Common.{◌≡◌, ◌≤◌, ◌-◌, ◌++◌, length}
use Rattle.cps_state.specs.Work.{counted_on}
use Rattle.cps_final.specs.Changes.{no_change}
use Rattle.cps_final.specs.Code.Kept.{changes_in}
use Rattle.cps_edit.specs.Passes.{state_after}
use Rattle.cps_chunk.specs.Code.Replay.{now_by}
use Rattle.cps_chunk.specs.Replayed.{replayed}
use Rattle.cps_chunk.specs.Code.Walk.{now_at, stood_at, stretch}
use Rattle.cps_chunk.proofs.walk.Walk.go_over_from.Given as goal

abbrev pub invariant-loop-at : goal.invariant-loop-at
invariant-loop-at l = record {
  news : l.self.replay.news.items
      ++ replayed (now_by l.self.replay.log (stood_at l.fn.self.base l.at)) l.at (stretch l.at l.to l.fn.self.base.lines.now) (stretch l.at l.to l.fn.self.base.traces.now)
      ≡ l.fn.self.replay.news.items
      ++ replayed (now_at l.fn.self l.from) l.from (stretch l.from l.to l.fn.self.base.lines.now) (stretch l.from l.to l.fn.self.base.traces.now);
  state : state_after (now_by l.self.replay.log (stood_at l.fn.self.base l.at)) (stretch l.at l.to l.fn.self.base.lines.now)
      ≡ state_after (now_at l.fn.self l.from) (stretch l.from l.to l.fn.self.base.lines.now);
  present : changes_in l.self.replay.log.present ≡ no_change;
  base : l.self.base ≡ l.fn.self.base;
  chunks : l.self.chunks ≡ l.fn.self.chunks;
  ones : counted_on l.work.ones
      (length (replayed (now_by l.self.replay.log (stood_at l.fn.self.base l.at)) l.at (stretch l.at l.to l.fn.self.base.lines.now) (stretch l.at l.to l.fn.self.base.traces.now)))
      ≡ counted_on l.fn.work.ones (length (replayed (now_at l.fn.self l.from) l.from (stretch l.from l.to l.fn.self.base.lines.now) (stretch l.from l.to l.fn.self.base.traces.now)));
  ones_least : l.fn.work.ones ≤ l.work.ones;
  twos : l.work.twos ≡ l.fn.work.twos;
  looked : l.work.looked ≤ counted_on l.fn.work.looked (l.at - l.from);
  looked_least : l.fn.work.looked ≤ l.work.looked;
}
