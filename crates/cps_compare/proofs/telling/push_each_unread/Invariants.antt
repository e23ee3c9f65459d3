use Rattle.std.proofs.Common.{◌≡◌, ◌++◌, take}
use Rattle.cps_compare.specs.Summary.{each_unread}
use Rattle.cps_compare.proofs.telling.push_each_unread.Given as goal

abbrev pub invariant-loop-row : goal.invariant-loop-row
invariant-loop-row l = l.text.items ≡ l.fn.text.items ++ each_unread (take l.row-index l.rows)
