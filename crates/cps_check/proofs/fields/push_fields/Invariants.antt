use Rattle.std.proofs.Common.{◌≡◌, ◌++◌, take}
use Rattle.std.specs.Prelude.{map}
use Rattle.cps_code.specs.Code.Operations.{row_of_fields}
use Rattle.cps_check.specs.Code.Kept.{told_rows}
use Rattle.cps_check.proofs.fields.push_fields.Given as goal

abbrev pub invariant-loop-row : goal.invariant-loop-row
invariant-loop-row l = l.text.items ≡ l.fn.text.items ++ told_rows l.told (map row_of_fields (take l.row-index l.rows))
