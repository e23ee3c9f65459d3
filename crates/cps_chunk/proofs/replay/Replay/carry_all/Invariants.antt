use Rattle.std.proofs.Common.{◌≡◌, drop}
use Rattle.cps_final.specs.Code.Kept.{changes_in}
use Rattle.cps_final.specs.Layout.{puts_of}
use Rattle.cps_chunk.specs.Code.Compared.{with_puts}
use Rattle.cps_chunk.proofs.replay.Replay.carry_all.Given as goal

-- the lines that are left put more to the same end
abbrev pub invariant-loop-trace : goal.invariant-loop-trace
invariant-loop-trace l = record {
  present : with_puts (changes_in l.self.log.present) (puts_of (drop l.trace-index l.traces)) ≡ with_puts (changes_in l.fn.self.log.present) (puts_of l.traces);
  changes : l.self.log.changes ≡ l.fn.self.log.changes;
  news : l.self.news ≡ l.fn.self.news;
}
