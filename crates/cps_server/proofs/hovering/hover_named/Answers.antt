use Rattle.std.proofs.Common.{ap, subst, ◌∙◌}
use Rattle.std.specs.Prelude.{List, option_map}
use Rattle.cps_mention.specs.Spots.{AreSpots, mention_at}
use Rattle.cps_server.specs.Hovers.{IsFront, range_of_mention}
use Rattle.cps_server.specs.Locations.{named_at, said_of}
use Rattle.cps_server.specs.Results.{hover}
use Rattle.cps_server.specs.Code.Naming.{lent}
use Rattle.cps_mention.specs.declared.spot.Spot.{Spot}
use Rattle.cps_server.proofs.HintLemmas.{if-ok-as}
use Rattle.cps_server.proofs.hovering.hover_named.Goals as goal

pub returns : goal.returns
returns c =
    let text = c.args.deck.document.now in
    let encoding = c.args.deck.encoding in
    let line = c.args.position.line in
    let mentions = c.args.mentions.now in
    let spots = c.in_ok-spots.spots.items in
    let shown = option_map (λ text. text.items) c.in_ok-shown.shown in
    let named = c.mention_in-mention.ensures ∙ ap (λ caret. mention_at caret mentions) c.caret_at-caret.ensures in
    let front = c.in_ok-front.front.items in
    let is_front : IsFront encoding text c.args.position (named_at encoding text c.args.position mentions) spots front =
    subst (λ mention. IsFront encoding text c.args.position mention spots front) named
    (subst (λ (under : List Spot). IsFront encoding text c.args.position (lent c.mention_in-mention.result) under front) c.deref.ensures.value c.in_ok-front.ensures) in
    let range = c.in_ok-range.ensures ∙ (λ i. range_of_mention encoding text (c.caret_at-caret.ensures i) (named i)) in
    if-ok-as c.hover.result
    (λ json is. record {
      mentions = mentions;
      say = c.requires;
      spots = spots;
      stand = subst (λ mention. AreSpots (said_of mentions mention) spots) named c.in_ok-spots.ensures;
      shown = shown;
      front = front;
      in_front = is_front;
      shows = c.in_ok-shown.ensures;
      is = is ∙ ap (hover c.args.deck.client.markup shown) range;
    }) c.hover.ensures
