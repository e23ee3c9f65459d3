use Rattle.std.proofs.Common.{◌≡◌, ◌++◌, [], take}
use Rattle.std.specs.Prelude.{map}
use Rattle.cps_list.specs.Columns.{with_columns}
use Rattle.cps_compare.specs.Told.{caret_at}
use Rattle.cps_compare.proofs.difference_rows.push_caret_row.Given as goal

abbrev pub invariant-loop-place : goal.invariant-loop-place
invariant-loop-place l = l.text.items ≡ l.fn.text.items ++ with_columns [] (map caret_at (take l.place-index l.places))
