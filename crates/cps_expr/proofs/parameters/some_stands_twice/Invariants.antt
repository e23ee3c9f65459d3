use Rattle.std.proofs.Common.{◌≡◌}
use Rattle.std.specs.List.{list_any}
use Rattle.cps_text.specs.Operands.{operands_of}
use Rattle.cps_text.specs.Code.OperandsLeft.{operands_left}
use Rattle.cps_expr.specs.Row.{stands_twice}
use Rattle.cps_expr.proofs.parameters.some_stands_twice.Given as goal

abbrev pub invariant-loop-operand : goal.invariant-loop-operand
invariant-loop-operand l =
    list_any (stands_twice (operands_of l.tail)) (operands_left l.operand-iterator)
    ≡ list_any (stands_twice (operands_of l.tail)) (operands_of l.tail)
