use Rattle.std.proofs.Common.{arith, ap, length}
use Rattle.cps_text.specs.Operands.{operand_len}
use Rattle.cps_text.proofs.PartLemmas.{parts-next}
use Rattle.cps_text.proofs.operand_list.OperandsIterator.next.Goals as goal

pub returns-clause-steps : goal.returns-clause-steps
returns-clause-steps c =
    rw c.in_ok-rest.was (parts-next operand_len c.in_ok-rest.rest.now c.split_at.result.0.now c.split_at.result.1.now c.operand_len.result
    c.behind_comma-self.result c.operand_len.ensures.place c.split_at.ensures.front c.split_at.ensures.back c.behind_comma-self.ensures)

pub returns-clause-goes : goal.returns-clause-goes
returns-clause-goes c =
    let fewer = ap length (returns-clause-steps c) in
    record { on = λ _. (tt, tt, omega (arith, fewer)); keeps = tt; rests = λ _. tt }
