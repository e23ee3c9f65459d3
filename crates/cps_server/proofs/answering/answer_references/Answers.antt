use Rattle.std.proofs.Common.{Some, refl, sym, subst, ◌∙◌}
use Rattle.serde_json.specs.View.{view}
use Rattle.cps_rpc.specs.Params.{wants_definitions}
use Rattle.cps_server.specs.Locations.{TellsReferences}
use Rattle.cps_server.specs.Queries.{TellsOf}
use Rattle.cps_server.proofs.answering.answer_references.Goals as goal

pub returns : goal.returns
returns c =
    let params = view c.args.params.now in
    let encoding = c.args.deck.encoding in
    let uri = c.args.deck.uri.now in
    let text = c.args.deck.document.now in
    let json = view c.in_ok-told.told in
    let told = subst (λ too. TellsReferences too encoding uri text c.in-Some.position json) c.wants_definitions.ensures c.in_ok-told.ensures in
    subst (λ asked. TellsOf asked (λ position json. TellsReferences (wants_definitions params) encoding uri text position json) (Some json))
    (sym (sym c.position_at.ensures ∙ c.in-Some.is)) (json, refl, told)
