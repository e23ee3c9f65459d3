use Rattle.std.proofs.Common.{ap, subst, ◌∙◌}
use Rattle.cps_mention.specs.Spots.{AreSpots, mention_at}
use Rattle.cps_server.specs.Locations.{said_of, spot_highlights}
use Rattle.cps_server.proofs.HintLemmas.{if-ok-as}
use Rattle.cps_server.proofs.locations.tell_highlights.Goals as goal

pub returns : goal.returns
returns c =
    let text = c.args.deck.document.now in
    let mentions = c.args.mentions.now in
    let spots = c.in_ok-spots.spots.items in
    let named = c.mention_in-mention.ensures ∙ ap (λ caret. mention_at caret mentions) c.caret_at.ensures in
    if-ok-as c.tell_spots.result
    (λ json is. record {
      mentions = mentions;
      say = c.requires;
      spots = spots;
      stand = subst (λ mention. AreSpots (said_of mentions mention) spots) named c.in_ok-spots.ensures;
      is = is ∙ ap (spot_highlights c.args.deck.encoding text) c.deref.ensures.value;
    }) c.tell_spots.ensures
