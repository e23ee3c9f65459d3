use Rattle.std.proofs.Common.{◌≡◌, take}
use Rattle.cps_chunk.specs.Sparse.{renewed}
use Rattle.cps_live.specs.Code.Storing.{left_by_each}
use Rattle.cps_live.proofs.storage.leave_same_each.Given as goal

abbrev pub invariant-loop-new : goal.invariant-loop-new
invariant-loop-new l = left_by_each (renewed 0 (take l.new-index l.news) l.olds) ≡ left_by_each l.olds
