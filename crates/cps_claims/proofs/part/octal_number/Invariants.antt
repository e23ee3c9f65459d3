use Rattle.std.proofs.Common.{◌≡◌, ◌^◌, ◌<◌, take}
use Rattle.cps_claims.specs.Parts.{octal_number}
use Rattle.cps_claims.proofs.part.octal_number.Given as goal

abbrev pub invariant-loop-digit : goal.invariant-loop-digit
invariant-loop-digit l = record {
  number : l.number ≡ octal_number (take l.digit-index l.digits);
  small : l.number < 8 ^ l.digit-index;
}
