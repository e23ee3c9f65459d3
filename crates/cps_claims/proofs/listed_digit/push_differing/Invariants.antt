use Rattle.std.proofs.Common.{◌≡◌, ◌++◌}
use Rattle.std.specs.List.{filter, range_with_len}
use Rattle.cps_claims.specs.ListedPlaces.{differs_in}
use Rattle.cps_claims.proofs.listed_digit.push_differing.Given as goal

abbrev pub invariant-loop-place : goal.invariant-loop-place
invariant-loop-place l = l.found.items ≡ l.fn.found.items ++ filter (differs_in l.deck l.text) (range_with_len 0 l.place)
