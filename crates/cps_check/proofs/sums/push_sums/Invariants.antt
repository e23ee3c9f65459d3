use Rattle.std.proofs.Common.{◌≡◌, ◌++◌, take}
use Rattle.std.specs.Prelude.{flat_map, map}
use Rattle.cps_check.specs.Code.Kept.{sum_parts, told_row}
use Rattle.cps_check.proofs.sums.push_sums.Given as goal

abbrev pub invariant-loop-row : goal.invariant-loop-row
invariant-loop-row l = l.text.items ≡ l.fn.text.items ++ flat_map (told_row l.told) (map sum_parts (take l.row-index l.rows))
