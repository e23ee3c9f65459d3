use Rattle.std.proofs.Common.{rules, ◌≡◌, [], ◌++◌, map, ap, ◌∙◌}
use Rattle.serde_json.specs.Data.{array}
use Rattle.serde_json.specs.View.{items_of, view}
use Rattle.cps_server.specs.Completions.{completion, offered_in}
use Rattle.cps_server.proofs.completions.tell_completions.Goals as goal

pub returns : goal.returns
returns c =
    let text = c.args.deck.document.now in
    let told = map view c.push_offered.new.told.items in
    let offered = map (completion (view c.in_ok-range.range)) (offered_in c.in_ok-field.field c.machine_at.result text) in
    let empty : c.new-told.result.items ≡ [] = search rules in
    let added : told ≡ offered = c.in_ok-push_offered.ensures ∙ ap (λ items. map view items ++ offered) empty in
    let all = added ∙ (λ i. map (completion (c.in_ok-range.ensures i)) (offered_in (c.in_ok-field.ensures i) (c.machine_at.ensures i) text)) in
    search rules ∙ ap (λ ds. array (items_of ds)) all
