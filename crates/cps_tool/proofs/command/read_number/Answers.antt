use Rattle.std.proofs.Common.{arith, get_or}
use Rattle.std.proofs.lemmas.Int.Digits.{digits_more, digits_value_more}
use Rattle.std.proofs.lemmas.Str.Parse.{digit_from_value}
use Rattle.std.proofs.lemmas.Str.{digit_value_digit}
use Rattle.cps_tool.proofs.NumberLemmas.{digit_at, number_small}
use Rattle.cps_tool.proofs.command.read_number.Goals as goal

pub returns-then-not-is_ascii_digit : goal.returns-then-not-is_ascii_digit
returns-then-not-is_ascii_digit c = λ number is.
    let i = c.loop-digit.digit-index in
    let digit = digit_from_value (get_or c.args.digits.now i 0) (digit_at c.args.digits.now i is.decimal c.loop-digit-test.true) in
    let not_digit = c.if-not-is_ascii_digit.ensures.cases in
    grind arith

pub overflow_mul-number : goal.overflow_mul-number
overflow_mul-number c = let inv = c.loop-digit.invariant in
    let value = inv.value in
    let small = number_small c.args.digits.now c.loop-digit.digit-index inv.decimal c.loop-digit-test.true inv.few in
    omega arith

pub overflow_add-number : goal.overflow_add-number
overflow_add-number c = let inv = c.loop-digit.invariant in
    let value = inv.value in
    let small = number_small c.args.digits.now c.loop-digit.digit-index inv.decimal c.loop-digit-test.true inv.few in
    let byte = c.type_inv.digits c.loop-digit.digit-index in
    omega arith

pub loop-digit-preserved : goal.loop-digit-preserved
loop-digit-preserved c = let inv = c.loop-digit.invariant in
    let value = inv.value in
    let i = c.loop-digit.digit-index in
    let digits = c.args.digits.now in
    let digit = digit_value_digit (get_or digits i 0) c.if-not-is_ascii_digit.ensures.cases in
    let more = digits_value_more 10 digits i c.loop-digit-test.true in
    record {
      few = inv.few;
      decimal = digits_more 10 digits i c.loop-digit-test.true inv.decimal c.if-not-is_ascii_digit.ensures.bound;
      value = omega arith;
    }
