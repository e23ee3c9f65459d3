use Rattle.std.proofs.Common.{◌≡◌, drop}
use Rattle.cps_final.specs.Code.Kept.{changes_in}
use Rattle.cps_chunk.specs.Code.Compared.{with_puts}
use Rattle.cps_chunk.proofs.change_log.ChangeLog.put.Given as goal

-- what is left makes the same of what is there
abbrev pub invariant-loop-put : goal.invariant-loop-put
invariant-loop-put l = record {
  present : with_puts (changes_in l.self.present) (drop l.put-index l.puts) ≡ with_puts (changes_in l.fn.self.present) l.puts;
  changes : l.self.changes ≡ l.fn.self.changes;
}
