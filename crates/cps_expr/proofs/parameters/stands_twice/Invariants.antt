use Rattle.std.proofs.Common.{◌≡◌, ◌+◌, cond}
use Rattle.std.specs.Prelude.{count_by}
use Rattle.cps_text.specs.Operands.{operands_of}
use Rattle.cps_text.specs.Code.OperandsLeft.{operands_left}
use Rattle.cps_expr.specs.Same.{is_same}
use Rattle.cps_expr.proofs.parameters.stands_twice.Given as goal

abbrev pub invariant-loop-operand : goal.invariant-loop-operand
invariant-loop-operand l =
    cond l.was_found 1 0 + count_by (is_same l.text) (operands_left l.operand-iterator) ≡ count_by (is_same l.text) (operands_of l.tail)
