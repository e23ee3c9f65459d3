use Rattle.cps_code.specs.Code.Terms.{IsKept}
use Rattle.cps_code.proofs.SumReading.{adds-register, adds-other}
use Rattle.cps_code.proofs.sum.add_term.Goals as goal

pub returns-in-Some : goal.returns-in-Some
returns-in-Some c = λ so_far kept.
    adds-register c.args.radix c.args.is_minus c.args.text.now so_far c.in-Some.register (IsKept c.add_register.new.kept) c.add_register.result c.in-Some.ensures.register
    (c.add_register.ensures so_far kept)

pub returns-in-None : goal.returns-in-None
returns-in-None c = λ so_far kept.
    adds-other c.args.radix c.args.is_minus c.args.text.now c.args.kept.now.registers c.args.kept.now.constant c.add_other.new.constant c.args.kept.now.has_constant so_far
    c.add_other.result c.in-None.ensures.register c.add_other.ensures.readable c.add_other.ensures.term kept
