use Rattle.std.proofs.Common.{◌≡◌, ◌+◌, ◌≤◌, ◌++◌, length, drop}
use Rattle.cps_state.specs.Work.{counted_on}
use Rattle.cps_final.specs.Code.Ends.{was_of, now_of}
use Rattle.cps_chunk.specs.Replayed.{redone}
use Rattle.cps_chunk.specs.Sparse.{AreWithin}
use Rattle.cps_chunk.proofs.redo.Redo.go_over_all.Given as goal

abbrev pub invariant-loop-i : goal.invariant-loop-i
invariant-loop-i l = record {
  within : AreWithin (l.from + l.i) (l.from + length l.olds) l.left;
  news :
      l.self.news.items ++ redone (was_of l.fn.self.ends) (now_of l.fn.self.ends) (l.from + l.i) l.left (drop l.i l.olds)
      ≡ l.fn.self.news.items ++ redone (was_of l.fn.self.ends) (now_of l.fn.self.ends) l.from l.news l.olds;
  ends : l.self.ends ≡ l.fn.self.ends;
  ones : l.work.ones ≡ l.fn.work.ones;
  twos : counted_on l.work.twos (length (redone (was_of l.fn.self.ends) (now_of l.fn.self.ends) (l.from + l.i) l.left (drop l.i l.olds)))
      ≡ counted_on l.fn.work.twos (length (redone (was_of l.fn.self.ends) (now_of l.fn.self.ends) l.from l.news l.olds));
  twos_least : l.fn.work.twos ≤ l.work.twos;
  looked_least : l.fn.work.looked ≤ l.work.looked;
  looked_most : l.work.looked ≤ counted_on l.fn.work.looked l.i;
}
