use Rattle.std.proofs.Common.{◌≡◌, drop}
use Rattle.std.specs.Prelude.{map}
use Rattle.cps_text.specs.Operands.{operands_of}
use Rattle.cps_code.specs.RowForms.{form_in, form_of_rows, operands_in}
use Rattle.cps_code.specs.Code.FoundForms.{no_sum}
use Rattle.cps_code.specs.Code.Operations.{row_of_fields}
use Rattle.cps_code.proofs.fields.form_of_fields.Given as goal

abbrev pub invariant-loop-row : goal.invariant-loop-row
invariant-loop-row l =
    form_in l.radix l.digits (map row_of_fields (drop l.row-index l.rows)) (no_sum (operands_of l.tail)) ≡ form_of_rows l.radix l.digits (map row_of_fields l.rows) (operands_in l.radix l.tail)
