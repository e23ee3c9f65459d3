use Rattle.std.proofs.Common.{◌≡◌, map, take}
use Rattle.serde_json.specs.View.{view}
use Rattle.cps_server.specs.Code.Renaming.{edits_of}
use Rattle.cps_server.specs.Renames.{edit_json}
use Rattle.cps_server.proofs.text_edit.list_edits.Given as goal

abbrev pub invariant-loop-edit : goal.invariant-loop-edit
invariant-loop-edit l = map view l.told.items ≡ map edit_json (edits_of (take l.edit-index l.edits))
