use Rattle.std.proofs.Common.{◌≡◌, drop}
use Rattle.cps_final.specs.Changes.{changed}
use Rattle.cps_final.specs.Code.Kept.{changes_in}
use Rattle.cps_chunk.specs.Code.Compared.{with_all_kept, with_puts}
use Rattle.cps_chunk.proofs.change_log.ChangeLog.take.Given as goal

-- what is left makes the same of what is there
abbrev pub invariant-loop-put : goal.invariant-loop-put
invariant-loop-put g l =
    let there = changed (changes_in l.fn.self.changes) (g.L.Lookup.answer l.before) in
    record {
      present : with_all_kept (changes_in l.self.present) (drop l.put-index l.puts) there ≡ with_all_kept (changes_in l.fn.self.present) l.puts there;
      former : with_puts (changes_in l.self.former) (drop l.put-index l.puts) ≡ with_puts (changes_in l.fn.self.former) l.puts;
      changes : l.self.changes ≡ l.fn.self.changes;
    }
