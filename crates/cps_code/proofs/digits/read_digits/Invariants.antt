use Rattle.std.proofs.Common.{◌≡◌, drop}
use Rattle.cps_code.specs.Digits.{digits_in, AreDigits}
use Rattle.cps_code.proofs.digits.read_digits.Given as goal

abbrev pub invariant-loop-letter : goal.invariant-loop-letter
invariant-loop-letter l = record {
  digits : digits_in (drop l.letter-index l.letters) l.rest l.known ≡ digits_in l.letters l.text l.fn.digits;
  octal : AreDigits l.known;
}
