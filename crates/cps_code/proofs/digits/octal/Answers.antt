use Rattle.std.proofs.Common.{◌^◌, ◌≤◌, arith}
use Rattle.std.proofs.Math.Nat.{pow-le-pow_right}
use Rattle.cps_code.proofs.digits.octal.Goals as goal

pub overflow_mul-number : goal.overflow_mul-number
overflow_mul-number c =
    let few = c.requires.few in
    let small = c.loop-letter.invariant.small in
    let top : 8 ^ c.loop-letter.letter-index ≤ 8 ^ 4 = pow-le-pow_right {n = 8} (omega arith) {i = c.loop-letter.letter-index} {j = 4} (omega arith) in
    omega arith

pub overflow_add-number : goal.overflow_add-number
overflow_add-number c =
    let few = c.requires.few in
    let small = c.loop-letter.invariant.small in
    let digit = c.digit_of.ensures.octal in
    let top : 8 ^ c.loop-letter.letter-index ≤ 8 ^ 4 = pow-le-pow_right {n = 8} (omega arith) {i = c.loop-letter.letter-index} {j = 4} (omega arith) in
    omega arith
