use Rattle.std.proofs.Common.{option_map}
use Rattle.cps_text.specs.Operands.{operands_of}
use Rattle.cps_text.specs.Code.OperandsLeft.{operands_left}
use Rattle.cps_expr.specs.OperandList.{all_some}
use Rattle.cps_expr.proofs.ReadsLemmas.{read_item, lost_item, no_item, all_read}
use Rattle.cps_expr.proofs.reads.read_all.Goals as goal

pub loop-operand-preserved-in-Ok : goal.loop-operand-preserved-in-Ok
loop-operand-preserved-in-Ok g c =
    read_item (g.T.ListOperand.written c.args.radix) c.in-Some.operand.now (operands_left c.next.new.self) (option_map (λ list. list.items) c.loop-operand.kept)
    (option_map (λ list. list.items) c.keep.new.kept) c.in-Ok.value
    (all_some (g.T.ListOperand.written c.args.radix) (operands_of c.args.tail.now))
    c.in-Ok.ensures c.keep.ensures (rw c.in-Some.ensures.steps at c.loop-operand.invariant)

pub loop-operand-preserved : goal.loop-operand-preserved
loop-operand-preserved g c =
    lost_item (g.T.ListOperand.written c.args.radix) c.in-Some.operand.now (operands_left c.next.new.self) (option_map (λ list. list.items) c.loop-operand.kept)
    (all_some (g.T.ListOperand.written c.args.radix) (operands_of c.args.tail.now))
    (rw c.in-Err-Memory.field-0-is at c.in-Err-Memory.ensures) (rw c.in-Some.ensures.steps at c.loop-operand.invariant)

pub returns-in-Err-Unreadable : goal.returns-in-Err-Unreadable
returns-in-Err-Unreadable g c =
    no_item (g.T.ListOperand.written c.args.radix) c.in-Some.operand.now (operands_left c.next.new.self) (option_map (λ list. list.items) c.loop-operand.kept)
    (all_some (g.T.ListOperand.written c.args.radix) (operands_of c.args.tail.now))
    (rw c.in-Err-Unreadable.field-0-is at c.in-Err-Unreadable.ensures) (rw c.in-Some.ensures.steps at c.loop-operand.invariant)

pub returns : goal.returns
returns g c =
    c.kept_items.ensures (all_some (g.T.ListOperand.written c.args.radix) (operands_of c.args.tail.now))
    (all_read (g.T.ListOperand.written c.args.radix) (option_map (λ list. list.items) c.loop-operand.kept)
    (all_some (g.T.ListOperand.written c.args.radix) (operands_of c.args.tail.now)) (rw c.in-None.ensures.steps.0 at c.loop-operand.invariant))
