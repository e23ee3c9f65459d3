use Rattle.std.proofs.Common.{◌≡◌, false}
use Rattle.std.specs.List.{list_any, range_with_len}
use Rattle.cps_claims.specs.Shown.{kept_digit, is_denied}
use Rattle.cps_compare.proofs.given_word.has_denied.Given as goal

abbrev pub invariant-loop-place : goal.invariant-loop-place
invariant-loop-place l = list_any (λ place. is_denied (kept_digit l.word place)) (range_with_len 0 l.place) ≡ false
