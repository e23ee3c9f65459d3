use Rattle.std.proofs.Common.{[], ◌∷◌, ◌++◌, map, take}
use Rattle.cps_server.specs.Code.Telling.{AddsOffers, offer_of}
use Rattle.cps_server.proofs.offers.push_with_digits.Given as goal

abbrev pub invariant-loop-digit : goal.invariant-loop-digit
invariant-loop-digit l =
    AddsOffers l.range (map (λ digit. offer_of l.sort (l.letters ++ digit ∷ [])) (take l.digit-index l.digits)) l.fn.told.items l.told.items
