use Rattle.std.proofs.Common.{◌≡◌, drop}
use Rattle.cps_final.specs.Changes.{agreed}
use Rattle.cps_final.specs.Code.Kept.{changes_in}
use Rattle.cps_final.specs.Layout.{puts_of}
use Rattle.cps_chunk.proofs.replay.Replay.agree_all.Given as goal

-- the lines that are left settle what is there to the same end
abbrev pub invariant-loop-trace : goal.invariant-loop-trace
invariant-loop-trace l = record {
  changes : agreed (changes_in l.self.log.changes) (puts_of (drop l.trace-index l.traces)) ≡ agreed (changes_in l.fn.self.log.changes) (puts_of l.traces);
  present : l.self.log.present ≡ l.fn.self.log.present;
  news : l.self.news ≡ l.fn.self.news;
}
