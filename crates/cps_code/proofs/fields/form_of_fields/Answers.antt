use Rattle.std.proofs.Common.{rules, sym}
use Rattle.cps_text.specs.Operands.{operands_of}
use Rattle.cps_code.proofs.FieldLemmas.{without_sum, row_found, row_missed}
use Rattle.cps_code.proofs.fields.form_of_fields.Goals as goal

pub loop-row-init : goal.loop-row-init
loop-row-init c = sym (without_sum c.args.radix c.args.digits c.args.rows.now c.args.tail.now)

pub returns-in-Err-Memory : goal.returns-in-Err-Memory
returns-in-Err-Memory c =
    row_found c.args.radix c.args.digits (operands_of c.args.tail.now) c.args.rows.now c.loop-row.row-index _ _ (search rules) c.loop-row.invariant
    (rw c.in-Err-Memory.field-0-is at c.in-Err-Memory.ensures)

pub loop-row-preserved : goal.loop-row-preserved
loop-row-preserved c =
    row_missed c.args.radix c.args.digits (operands_of c.args.tail.now) c.args.rows.now c.loop-row.row-index _ _ (search rules) c.loop-row.invariant
    (rw c.in-Err-Unreadable.field-0-is at c.in-Err-Unreadable.ensures)
