use Rattle.std.proofs.Common.{◌≡◌, ◌++◌, drop}
use Rattle.cps_state.specs.Work.{counted_on}
use Rattle.cps_final.specs.Code.Kept.{changes_in}
use Rattle.cps_final.specs.Layout.{puts_of}
use Rattle.cps_edit.specs.Passes.{traces_from}
use Rattle.cps_chunk.specs.Noted.{last_puts}
use Rattle.cps_chunk.specs.Code.Replay.{now_by, now_with}
use Rattle.cps_chunk.proofs.replay.Replay.enter_all.Given as goal

-- what the lines do that are left is what they do behind those so far
abbrev pub invariant-loop-line : goal.invariant-loop-line
invariant-loop-line g l = record {
  traces : l.traces.items ++ traces_from (now_with l.self.log (g.L.Lookup.answer l.past)) (drop l.line-index l.lines)
      ≡ traces_from (now_by l.fn.self.log (g.L.Lookup.answer l.past)) l.lines;
  puts : changes_in l.self.log.present ≡ last_puts (puts_of l.traces.items);
  changes : l.self.log.changes ≡ l.fn.self.log.changes;
  news : l.self.news ≡ l.fn.self.news;
  ones : l.work.ones ≡ counted_on l.fn.work.ones l.line-index;
  twos : l.work.twos ≡ l.fn.work.twos;
  looked : l.work.looked ≡ l.fn.work.looked;
}
