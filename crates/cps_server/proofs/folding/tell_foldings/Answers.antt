use Rattle.std.proofs.Common.{rules, ◌≡◌, length, map, ap, subst, ◌∙◌}
use Rattle.serde_json.specs.Data.{array}
use Rattle.serde_json.specs.View.{items_of, view}
use Rattle.cps_server.specs.Foldings.{AreFoldings, folding_json}
use Rattle.cps_server.proofs.folding.tell_foldings.Goals as goal

pub returns : goal.returns
returns c =
    let standing = c.in_ok-standing.standing.items in
    let told : view c.from.result ≡ array (items_of (map view c.in_ok-told.told.items)) = search rules in (
      standing,
      subst (λ count. AreFoldings count 0 standing) (c.count.ensures.count ∙ ap length c.session.ensures) c.in_ok-standing.ensures,
      told ∙ ap (λ ds. array (items_of ds)) (c.in_ok-told.ensures ∙ ap (map folding_json) c.deref-2.ensures.value),
    )
