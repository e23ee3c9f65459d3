use Rattle.std.proofs.Common.{[], ◌∷◌, ◌++◌, map, ap, ◌∙◌}
use Rattle.std.proofs.lemmas.List.{map-append}
use Rattle.serde_json.specs.View.{view}
use Rattle.cps_server.specs.Results.{listing_json}
use Rattle.cps_server.proofs.HintLemmas.{next-listing}
use Rattle.cps_server.proofs.listing.listings_between.Goals as goal

pub loop-number-preserved : goal.loop-number-preserved
loop-number-preserved c =
    let told = c.loop-number.told.items in
    let added = ap (map view) c.in_ok-push.ensures.items ∙ map-append view told (c.in_ok-listing_of.field-0 ∷ []) ∙ (λ i. map view told ++ (c.in_ok-listing_of.ensures i ∷ [])) in
    next-listing (listing_json c.args.document.now) (map view told) (map view c.push.new.self.items) _
    c.loop-number.number c.args.end c.loop-number-test.true added c.loop-number.invariant
