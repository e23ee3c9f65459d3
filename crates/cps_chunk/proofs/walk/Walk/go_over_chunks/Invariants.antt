use Rattle.std.proofs.Common.{◌≡◌, ◌≤◌, ◌++◌, length, take}
use Rattle.std.specs.Prelude.{sum}
use Rattle.cps_state.specs.Work.{counted_on}
use Rattle.cps_final.specs.Changes.{no_change}
use Rattle.cps_final.specs.Code.Kept.{changes_in}
use Rattle.cps_chunk.specs.Code.Chunk.{lengths_of}
use Rattle.cps_edit.specs.Passes.{state_after}
use Rattle.cps_chunk.specs.Code.Replay.{now_by}
use Rattle.cps_chunk.specs.Replayed.{replayed}
use Rattle.cps_chunk.specs.Code.Sought.{AreSought}
use Rattle.cps_chunk.specs.Code.Walk.{IsStillWalk, cursor, looks_in, looks_over, now_at, replayed_in, stood_at, stretch}
use Rattle.cps_chunk.proofs.walk.Walk.go_over_chunks.Given as goal

-- what the lines do that are left is what they do behind those so far
abbrev pub invariant-loop-chunk : goal.invariant-loop-chunk
invariant-loop-chunk l =
    let base = l.fn.self.base in
    let now = now_by l.self.replay.log (stood_at base l.line) in
    let lines = stretch l.line l.fn.to base.lines.now in
    let traces = stretch l.line l.fn.to base.traces.now in
    record {
      walk : IsStillWalk l.fn.self l.self;
      line : l.line ≡ sum (take l.chunk (lengths_of l.fn.self.chunks.items));
      news : l.self.replay.news.items ++ replayed now l.line lines traces ≡ l.fn.self.replay.news.items ++ replayed_in l.fn.self l.fn.first.line l.fn.to;
      state : state_after now lines ≡ state_after (now_at l.fn.self l.fn.first.line) (stretch l.fn.first.line l.fn.to base.lines.now);
      sought : AreSought l.self.base.hashing l.self.replay.log.changes l.sought;
      present : changes_in l.self.replay.log.present ≡ no_change;
      ones : counted_on l.work.ones (length (replayed now l.line lines traces)) ≡ counted_on l.fn.work.ones (length (replayed_in l.fn.self l.fn.first.line l.fn.to));
      ones_least : l.fn.work.ones ≤ l.work.ones;
      twos : l.work.twos ≡ l.fn.work.twos;
      looked : counted_on l.work.looked (looks_over now (stretch l.chunk l.fn.past (lengths_of l.fn.self.chunks.items)) lines traces) ≤ counted_on l.fn.work.looked (looks_in l.fn.self l.fn.first (cursor l.fn.past l.fn.to));
      looked_least : l.fn.work.looked ≤ l.work.looked;
    }
