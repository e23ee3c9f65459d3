use Rattle.std.proofs.Common.{arith}
use Rattle.cps_expr.proofs.PackingLemmas.{few-small}
use Rattle.cps_expr.proofs.packing.Packed.push.Goals as goal

pub overflow_mul-self : goal.overflow_mul-self
overflow_mul-self c =
    let small = few-small c.args.self.now.word c.args.self.now.count c.args.self.now.fits c.requires.room in
    omega arith

pub overflow_add-self : goal.overflow_add-self
overflow_add-self c =
    let small = few-small c.args.self.now.word c.args.self.now.count c.args.self.now.fits c.requires.room in
    omega (arith, c.from.ensures)
