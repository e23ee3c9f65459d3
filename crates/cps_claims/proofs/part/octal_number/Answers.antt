use Rattle.std.proofs.Common.{arith}
use Rattle.cps_claims.proofs.NumberLemmas.{octal-few}
use Rattle.cps_claims.proofs.part.octal_number.Goals as goal

pub overflow_mul-number : goal.overflow_mul-number
overflow_mul-number c =
    let few = octal-few c.loop-digit.digit-index (omega arith) in
    let small = c.loop-digit.invariant.small in
    omega (arith, few, small)

pub overflow_add-number : goal.overflow_add-number
overflow_add-number c =
    let few = octal-few c.loop-digit.digit-index (omega arith) in
    let small = c.loop-digit.invariant.small in
    omega (arith, few, small)

pub returns-clause-small : goal.returns-clause-small
returns-clause-small c =
    let few = octal-few c.loop-digit.digit-index (omega arith) in
    let small = c.loop-digit.invariant.small in
    omega (arith, few, small)
