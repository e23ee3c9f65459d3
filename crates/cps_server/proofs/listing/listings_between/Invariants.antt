use Rattle.std.proofs.Common.{◌≡◌, ◌-◌, ◌++◌, map}
use Rattle.std.specs.List.{range_with_len}
use Rattle.serde_json.specs.View.{view}
use Rattle.cps_server.specs.Results.{listing_json}
use Rattle.cps_server.proofs.listing.listings_between.Given as goal

-- those of the lines that are left stand behind those that are there
abbrev pub invariant-loop-number : goal.invariant-loop-number
invariant-loop-number l =
    map view l.told.items ++ map (listing_json l.document) (range_with_len l.number (l.end - l.number))
    ≡ map (listing_json l.document) (range_with_len l.first (l.end - l.first))
