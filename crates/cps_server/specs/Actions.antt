-- What may be mended in the lines of a text. From the Language Server Protocol 3.17. What is offered is tested, not proved.
use Rattle.std.specs.Prelude.{◌≡◌, ◌<◌, ◌≤◌, ℕ, List, All, length, map, codes}
use Rattle.serde_json.specs.Data.{Data, string, array, object, no_members, member}
use Rattle.serde_json.specs.View.{items_of}
use Rattle.cps_rpc.specs.declared.encoding.Encoding.{Encoding}
use Rattle.cps_rpc.specs.Lines.{source_lines}
use Rattle.cps_server.specs.Ranges.{range_of, told_units}
use Rattle.cps_server.specs.Results.{text_json}
use Rattle.cps_server.specs.Symbols.{line_of}
use Rattle.cps_server.specs.declared.action.Action.{Action}
use Rattle.cps_server.specs.declared.action.LineEdit.{LineEdit}

-- an edit of a line of the text, from a place of it up to a further one
pub record IsEdit (text : List ℕ) (edit : LineEdit) : Type 0 where
  pub line : edit.line < length (source_lines text)
  pub forward : edit.start ≤ edit.end
  pub within : edit.end ≤ length (line_of text edit.line)

-- a character of ASCII that is no control character
pub record IsShown (character : ℕ) : Type 0 where
  pub least : 0x20 ≤ character
  pub greatest : character ≤ 0x7e

pub record IsAction (text : List ℕ) (action : Action) : Type 0 where
  pub title : All IsShown action.title.items
  pub edits : All (IsEdit text) action.edits.items

-- ---- as they are told

abbrev pub replacement : List ℕ → Data → Data
replacement text range = object (member (codes "newText") (text_json text) (member (codes "range") range no_members))

abbrev pub edit_json : Encoding → List ℕ → LineEdit → Data
edit_json encoding text edit = replacement edit.text.items
    (range_of edit.line (told_units encoding (line_of text edit.line) edit.start) (told_units encoding (line_of text edit.line) edit.end))

abbrev pub told_action : List ℕ → List ℕ → Data → Data
told_action uri title edits =
    object (member (codes "edit") (object (member (codes "changes") (object (member uri edits no_members)) no_members))
    (member (codes "kind") (string (codes "quickfix")) (member (codes "title") (text_json title) no_members)))

abbrev pub action_json : Encoding → List ℕ → List ℕ → Action → Data
action_json encoding uri text action = told_action uri action.title.items (array (items_of (map (edit_json encoding text) action.edits.items)))

-- what is told are actions on the text under a URI
abbrev pub TellsActions : Encoding → List ℕ → List ℕ → Data → Type 0
TellsActions encoding uri text json =
    (actions : List Action) × All (IsAction text) actions × (json ≡ array (items_of (map (action_json encoding uri text) actions)))
