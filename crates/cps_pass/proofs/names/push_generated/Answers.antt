use Rattle.std.proofs.Common.{arith}
use Rattle.cps_pass.proofs.names.push_generated.Goals as goal

pub overflow_add-number : goal.overflow_add-number
overflow_add-number c =
    let number = c.loop-name.invariant.number in
    let few = c.requires in
    let more = c.loop-name-test.true in
    omega (arith, number, few, more)
