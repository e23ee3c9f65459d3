use Rattle.cps_expr.proofs.RowBounds.{reads-bounded}
use Rattle.cps_expr.proofs.statement_table.read_row.Goals as goal

pub returns-clause-bounded : goal.returns-clause-bounded
returns-clause-bounded c = reads-bounded c.args.operation c.args.tail.now c.args.machine c.args.radix c.read_operands.result c.read_operands.ensures
