use Rattle.std.proofs.Common.{◌≡◌, ◌≤◌, length}
use Rattle.std.specs.Prelude.{map}
use Rattle.std.specs.List.{range_with_len}
use Rattle.cps_claims.specs.Shown.{kept_digit}
use Rattle.cps_compare.specs.Given.{said_again}
use Rattle.cps_compare.proofs.given_word.again_digits.Given as goal

abbrev pub invariant-loop-place : goal.invariant-loop-place
invariant-loop-place l = record {
  digits : l.digits.items ≡ map (λ place. said_again (kept_digit l.word place)) (range_with_len 0 l.place);
  few : length l.digits.items ≤ l.place;
}
