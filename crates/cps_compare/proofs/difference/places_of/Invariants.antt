use Rattle.std.proofs.Common.{◌≡◌, ◌≤◌, ◌+◌, ◌-◌, ◌++◌, length}
use Rattle.std.specs.List.{filter, range_with_len}
use Rattle.cps_claims.specs.Counts.{places}
use Rattle.cps_claims.specs.Shown.{kept_digit}
use Rattle.cps_compare.specs.Differences.{differs_in}
use Rattle.cps_compare.proofs.difference.places_of.Given as goal

abbrev pub invariant-loop-place : goal.invariant-loop-place
invariant-loop-place l = record {
  places : l.places.items ≡ filter (differs_in l.word (kept_digit l.given)) (range_with_len 0 l.place);
  few : length l.places.items ≤ l.place;
}

abbrev pub invariant-loop-place-then-lacks : goal.invariant-loop-place-then-lacks
invariant-loop-place-then-lacks l = record {
  places : l.places.items ≡ filter (differs_in l.word (kept_digit l.given)) places ++ range_with_len l.shown (l.place - l.shown);
  few : length l.places.items ≤ 20 + (l.place - l.shown);
}
