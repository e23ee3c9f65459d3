use Rattle.std.proofs.Common.{rules, ◌≡◌, get_or, ap, ◌∙◌}
use Rattle.serde_json.specs.View.{view}
use Rattle.cps_server.specs.Code.Telling.{edit_in_deck}
use Rattle.cps_server.proofs.EditingLemmas.{told-more}
use Rattle.cps_server.proofs.action.tell_edits.Goals as goal

pub loop-edit-preserved : goal.loop-edit-preserved
loop-edit-preserved c =
    let edits = c.args.edits.now in
    let i = c.loop-edit.edit-index in
    let edit = c.edit-item.result in
    let there : edit ≡ get_or edits i edit = search rules in
    told-more view (edit_in_deck c.args.deck) edits i edit c.loop-edit.told.items c.push.new.self.items c.in_ok-tell_edit.field-0 c.loop-edit-test.true
    c.loop-edit.invariant (c.in_ok-tell_edit.ensures ∙ ap (edit_in_deck c.args.deck) there) c.in_ok-push.ensures.items
