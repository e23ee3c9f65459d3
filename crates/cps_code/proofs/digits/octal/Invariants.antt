use Rattle.std.proofs.Common.{◌≡◌, ◌+◌, ◌*◌, ◌^◌, ◌<◌, drop, fold}
use Rattle.cps_code.specs.Digits.{digit_of}
use Rattle.cps_code.proofs.digits.octal.Given as goal

abbrev pub invariant-loop-letter : goal.invariant-loop-letter
invariant-loop-letter l = record {
  number : fold (λ number letter. number * 8 + digit_of l.digits letter) l.number (drop l.letter-index l.text) ≡ fold (λ number letter. number * 8 + digit_of l.digits letter) 0 l.text;
  small : l.number < 8 ^ l.letter-index;
}
