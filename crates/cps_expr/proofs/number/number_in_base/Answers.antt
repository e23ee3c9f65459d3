use Rattle.std.proofs.Common.{◌<◌, arith}
use Rattle.cps_expr.proofs.NumberReading.{number_in-none}
use Rattle.cps_expr.proofs.number.number_in_base.Goals as goal

pub returns-in-None-clause-value : goal.returns-in-None-clause-value
returns-in-None-clause-value c =
    let some : 0 < c.args.base = let base = c.requires.base in omega arith in
    number_in-none c.args.greatest c.args.base c.args.digits.now c.loop-digit.digit-index some c.loop-digit-test.true (rw c.loop-digit.invariant.number at c.in-None.ensures)
