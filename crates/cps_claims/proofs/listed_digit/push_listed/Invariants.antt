use Rattle.std.proofs.Common.{◌≡◌, ◌++◌, take}
use Rattle.cps_claims.specs.ListedPlaces.{listed_text}
use Rattle.cps_claims.proofs.listed_digit.push_listed.Given as goal

abbrev pub invariant-loop-one : goal.invariant-loop-one
invariant-loop-one l = l.text.items ≡ l.fn.text.items ++ listed_text (take l.one-index l.listed)
