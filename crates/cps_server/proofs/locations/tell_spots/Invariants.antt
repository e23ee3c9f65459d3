use Rattle.std.proofs.Common.{◌≡◌, map, take}
use Rattle.serde_json.specs.View.{view}
use Rattle.cps_server.specs.Locations.{spot_highlight}
use Rattle.cps_server.proofs.locations.tell_spots.Given as goal

abbrev pub invariant-loop-spot : goal.invariant-loop-spot
invariant-loop-spot l = map view l.told.items ≡ map (spot_highlight l.deck.encoding l.deck.document.now) (take l.spot-index l.spots)
