use Rattle.std.proofs.Common.{◌≡◌, map, take}
use Rattle.serde_json.specs.View.{view}
use Rattle.cps_server.specs.Code.Telling.{edit_in_deck}
use Rattle.cps_server.proofs.action.tell_edits.Given as goal

abbrev pub invariant-loop-edit : goal.invariant-loop-edit
invariant-loop-edit l = map view l.told.items ≡ map (edit_in_deck l.deck) (take l.edit-index l.edits)
