use Rattle.std.proofs.Common.{arith, get_or}
use Rattle.std.proofs.lemmas.Int.Digits.{digits_value_more}
use Rattle.std.proofs.lemmas.Str.Parse.{digit_at}
use Rattle.std.proofs.lemmas.Str.{digit_value_digit}
use Rattle.cps_rpc.proofs.LengthLemmas.{all_digits, number_small}
use Rattle.cps_rpc.proofs.length.number_of.Goals as goal

pub overflow_mul-number : goal.overflow_mul-number
overflow_mul-number c =
    let value = c.loop-digit.invariant in
    let all = all_digits c.args.digits.now c.requires.digits in
    let small = number_small c.args.digits.now c.loop-digit.digit-index all c.loop-digit-test.true c.requires.few in
    omega arith

pub overflow_add-number : goal.overflow_add-number
overflow_add-number c =
    let value = c.loop-digit.invariant in
    let all = all_digits c.args.digits.now c.requires.digits in
    let small = number_small c.args.digits.now c.loop-digit.digit-index all c.loop-digit-test.true c.requires.few in
    let range = digit_at c.args.digits.now c.loop-digit.digit-index all c.loop-digit-test.true in
    let from = c.from.ensures in
    grind arith

pub loop-digit-preserved : goal.loop-digit-preserved
loop-digit-preserved c =
    let value = c.loop-digit.invariant in
    let digits = c.args.digits.now in
    let i = c.loop-digit.digit-index in
    let range = digit_at digits i (all_digits digits c.requires.digits) c.loop-digit-test.true in
    let digit = digit_value_digit (get_or digits i 0) range in
    let more = digits_value_more 10 digits i c.loop-digit-test.true in
    let from = c.from.ensures in
    grind arith
