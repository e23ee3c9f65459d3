use Rattle.std.proofs.Common.{rules, ◌||◌, ap, subst, ◌∙◌}
use Rattle.std.specs.Prelude.{not}
use Rattle.std.proofs.lemmas.Fn.{filter_same}
use Rattle.cps_mention.specs.declared.spot.Spot.{Spot}
use Rattle.cps_mention.specs.Spots.{AreSpots, is_definition, mention_at}
use Rattle.cps_server.specs.Locations.{said_of, spot_locations}
use Rattle.cps_server.proofs.HintLemmas.{if-ok-as}
use Rattle.cps_server.proofs.locations.tell_references.Goals as goal

pub returns : goal.returns
returns c =
    let text = c.args.deck.document.now in
    let mentions = c.args.mentions.now in
    let spots = c.in_ok-spots.spots.items in
    let named = c.mention_in-mention.ensures ∙ ap (λ caret. mention_at caret mentions) c.caret_at.ensures in
    let too = c.args.definitions_too in
    let kept = filter_same _ (λ (spot : Spot). too || not (is_definition spot.kind)) _ (λ x b f' k. search rules) _ _ c.retain.ensures.filtered in
    if-ok-as c.tell_locations.result
    (λ json is. record {
      mentions = mentions;
      say = c.requires;
      spots = spots;
      stand = subst (λ mention. AreSpots (said_of mentions mention) spots) named c.in_ok-spots.ensures;
      is = is ∙ ap (spot_locations c.args.deck.encoding c.args.deck.uri.now text) (c.deref.ensures.value ∙ kept);
    }) c.tell_locations.ensures
