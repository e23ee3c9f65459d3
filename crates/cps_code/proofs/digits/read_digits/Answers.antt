use Rattle.std.proofs.Common.{◌<◌, length, drop, length-drop, sym, ap, ◌∙◌, arith}
use Rattle.cps_code.specs.Digits.{digits_in}
use Rattle.cps_code.proofs.DigitsLemmas.{digits_in-end}
use Rattle.cps_code.proofs.digits.read_digits.Goals as goal

pub returns-in-None-clause-digits : goal.returns-in-None-clause-digits
returns-in-None-clause-digits c =
    let left = drop c.loop-letter.letter-index c.args.letters.now in
    let some : 0 < length left = grind (arith, length-drop) in
    sym (digits_in-end left c.loop-letter.known some) ∙ ap (λ text. digits_in left text c.loop-letter.known) (sym c.in-None.ensures) ∙ c.loop-letter.invariant.digits
