use Rattle.std.proofs.Common.{option_map}
use Rattle.cps_text.specs.Operands.{operands_of}
use Rattle.cps_text.specs.Code.OperandsLeft.{operands_left}
use Rattle.cps_expr.specs.OperandList.{all_some}
use Rattle.cps_expr.specs.Code.ReadSoFar.{Continues}
use Rattle.cps_expr.proofs.reads.read_all.Given as goal

abbrev pub invariant-loop-operand : goal.invariant-loop-operand
invariant-loop-operand g l =
    Continues (option_map (λ kept. kept.items) l.kept)
    (all_some (g.T.ListOperand.written l.radix) (operands_left l.operand-iterator))
    (all_some (g.T.ListOperand.written l.radix) (operands_of l.tail))
