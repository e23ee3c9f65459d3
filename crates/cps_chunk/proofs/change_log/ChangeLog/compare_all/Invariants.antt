use Rattle.std.proofs.Common.{◌≡◌, take}
use Rattle.cps_final.specs.Changes.{changed}
use Rattle.cps_final.specs.Code.Kept.{changes_in, keys_in}
use Rattle.cps_chunk.proofs.ComparedLemmas.{Compared}
use Rattle.cps_chunk.proofs.change_log.ChangeLog.compare_all.Given as goal

-- the keys so far are compared
abbrev pub invariant-loop-i : goal.invariant-loop-i
invariant-loop-i g l = record {
  present : l.self.present ≡ l.fn.self.present;
  former : l.self.former ≡ l.fn.self.former;
  done : Compared (take l.i (keys_in l.fn.self.present)) (changes_in l.fn.self.changes) (changes_in l.fn.self.present)
      (changed (changes_in l.fn.self.former) (g.L.Lookup.answer l.before)) (changes_in l.self.changes);
}
