use Rattle.std.proofs.Common.{rules, ◌≡◌, map, ap, ◌∙◌}
use Rattle.serde_json.specs.Data.{array}
use Rattle.serde_json.specs.View.{items_of, view}
use Rattle.cps_server.specs.Code.Telling.{action_in_deck}
use Rattle.cps_server.proofs.action.tell_actions.Goals as goal

pub returns : goal.returns
returns c =
    let told : view c.from.result ≡ array (items_of (map view c.in_ok-told.told.items)) = search rules in (
      c.in_ok-actions.actions.items,
      c.in_ok-actions.ensures,
      told ∙ ap (λ ds. array (items_of ds)) (c.in_ok-told.ensures ∙ ap (map (action_in_deck c.args.deck)) c.deref.ensures.value),
    )
