use Rattle.std.proofs.Common.{◌≡◌, ◌-◌, ◌≤◌, ◌++◌, length}
use Rattle.std.specs.List.{range_with_len}
use Rattle.cps_claims.proofs.listed_digit.push_lacking.Given as goal

abbrev pub invariant-loop-place : goal.invariant-loop-place
invariant-loop-place l = record {
  places : l.found.items ≡ l.fn.found.items ++ range_with_len (length l.text) (l.place - length l.text);
  within : l.place - length l.text ≤ length l.deck - length l.text;
}
