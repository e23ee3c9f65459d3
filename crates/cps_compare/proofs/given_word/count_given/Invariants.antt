use Rattle.std.proofs.Common.{◌≡◌, ◌≤◌}
use Rattle.std.specs.List.{count_by, range_with_len}
use Rattle.cps_claims.specs.Parts.{is_octal}
use Rattle.cps_claims.specs.Shown.{kept_digit, is_unknown, is_denied}
use Rattle.cps_compare.proofs.given_word.count_given.Given as goal

abbrev pub invariant-loop-place : goal.invariant-loop-place
invariant-loop-place l = record {
  known : l.known ≡ count_by (λ place. is_octal (kept_digit l.word place).shown) (range_with_len 0 l.place);
  unknown : l.unknown ≡ count_by (λ place. is_unknown (kept_digit l.word place)) (range_with_len 0 l.place);
  denied : l.denied ≡ count_by (λ place. is_denied (kept_digit l.word place)) (range_with_len 0 l.place);
  few_known : l.known ≤ l.place;
  few_unknown : l.unknown ≤ l.place;
  few_denied : l.denied ≤ l.place;
}
