use Rattle.std.proofs.Common.{◌≡◌, drop}
use Rattle.cps_expr.specs.Operation.{table_value, named_in}
use Rattle.cps_expr.proofs.operation.named_in.Given as goal

abbrev pub invariant-loop-name : goal.invariant-loop-name
invariant-loop-name l = named_in (table_value (drop l.name-index l.table)) l.text ≡ named_in (table_value l.table) l.text
