use Rattle.std.proofs.Common.{arith}
use Rattle.cps_text.specs.Digits.{digits_number}
use Rattle.cps_text.proofs.DigitsLemmas.{digits-above}
use Rattle.cps_text.proofs.ItemReading.{no_count-above}
use Rattle.cps_text.proofs.data_item.read_count.Goals as goal

pub returns-then-count-most : goal.returns-then-count-most
returns-then-count-most c =
    let above = rw (c.from.ensures, c.saturating_sub.ensures, c.loop-digit.invariant.0) at c.if-count-most.true in
    no_count-above c.args.most (digits_number 10 c.args.digits.now)
    (digits-above 10 c.args.most c.args.digits.now c.loop-digit.digit-index (omega arith) c.loop-digit-test.true above)
