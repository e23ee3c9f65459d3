use Rattle.std.proofs.Common.{rules, arith, ◌≡◌, ◌≤◌, ◌∷◌, [], length, map, take_all, get_or, ap, ◌∙◌}
use Rattle.std.proofs.lemmas.List.{map-append}
use Rattle.serde_json.specs.Data.{array}
use Rattle.serde_json.specs.View.{items_of, view}
use Rattle.cps_server.specs.Code.Renaming.{edit_of, edits_of}
use Rattle.cps_server.specs.Renames.{edit_json}
use Rattle.cps_server.proofs.TellingLemmas.{told-twice}
use Rattle.cps_server.proofs.text_edit.list_edits.Goals as goal

pub loop-edit-preserved : goal.loop-edit-preserved
loop-edit-preserved c =
    let told = c.loop-edit.told.items in
    told-twice edit_json edit_of c.args.edits.now c.loop-edit.edit-index _ (map view told) _ (map view c.push.new.self.items) c.loop-edit-test.true
    c.loop-edit.invariant c.in_ok-tell.ensures (ap (map view) c.in_ok-push.ensures.items ∙ map-append view told _)

pub returns : goal.returns
returns c =
    let edits = c.args.edits.now in
    let all : length edits ≤ c.loop-edit.edit-index = omega (arith, c.loop-edit-test.false) in
    let told = c.loop-edit.invariant ∙ ap (λ l. map edit_json (edits_of l)) (take_all c.loop-edit.edit-index edits all) in
    c.from.ensures ∙ ap (λ items. array (items_of items)) told
