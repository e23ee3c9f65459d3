use Rattle.std.proofs.Common.{arith, ◌≤◌, length, map, take_all, ap, ◌∙◌}
use Rattle.std.proofs.lemmas.List.{map-append}
use Rattle.serde_json.specs.Data.{array}
use Rattle.serde_json.specs.View.{items_of, view}
use Rattle.cps_server.specs.Locations.{spot_location}
use Rattle.cps_server.specs.Ranges.{location}
use Rattle.cps_server.proofs.TellingLemmas.{told-more}
use Rattle.cps_server.proofs.locations.tell_locations.Goals as goal

pub loop-spot-preserved : goal.loop-spot-preserved
loop-spot-preserved c =
    let told = c.loop-spot.told.items in
    told-more (spot_location c.args.deck.encoding c.args.deck.uri.now c.args.deck.document.now) c.args.spots.now c.loop-spot.spot-index _ (map view told) _ (map view c.push.new.self.items) c.loop-spot-test.true
    c.loop-spot.invariant (c.in_ok-location.ensures ∙ ap (λ range. location c.args.deck.uri.now range) c.in_ok-range.ensures) (ap (map view) c.in_ok-push.ensures.items ∙ map-append view told _)

pub returns : goal.returns
returns c =
    let spots = c.args.spots.now in
    let all : length spots ≤ c.loop-spot.spot-index = omega (arith, c.loop-spot-test.false) in
    let told = c.loop-spot.invariant ∙ ap (map (spot_location c.args.deck.encoding c.args.deck.uri.now c.args.deck.document.now)) (take_all c.loop-spot.spot-index spots all) in
    c.from.ensures ∙ ap (λ items. array (items_of items)) told
