use Rattle.std.proofs.Common.{take}
use Rattle.cps_final.specs.Code.Kept.{keys_in}
use Rattle.cps_live.proofs.DifferenceLemmas.{AreListedOf}
use Rattle.cps_live.proofs.differences.list_labels.Given as goal

-- those of the keys so far
abbrev pub invariant-loop-i : goal.invariant-loop-i
invariant-loop-i l = AreListedOf l.ends (take l.i (keys_in l.ends.patch.now.changes)) l.labels.items
