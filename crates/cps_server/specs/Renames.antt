-- What a server tells of a name that is to be called otherwise. The forms are those of the Language Server Protocol 3.17; what a renaming is, is our own.
use Rattle.std.specs.Prelude.{◌≡◌, ℕ, ℤ, List, [], ◌∷◌, ⊤, map, codes, Option, None, Some, option_and_then, option_map, if◌then◌else◌}
use Rattle.serde_json.specs.Data.{Data, null, number, string, array, object, no_members, member}
use Rattle.serde_json.specs.Find.{of_integer}
use Rattle.serde_json.specs.View.{items_of}
use Rattle.cps_text.specs.Name.{name_of}
use Rattle.cps_edit.specs.Assembly.{assembly_of}
use Rattle.cps_mention.specs.declared.calling.Calling.{Calling}
use Rattle.cps_mention.specs.declared.calling.Calling.TheVariants.{Same, Renamed}
use Rattle.cps_mention.specs.SameBut.{SameBut}
use Rattle.cps_rpc.specs.declared.client.Client.{Client}
use Rattle.cps_rpc.specs.declared.encoding.Encoding.{Encoding}
use Rattle.cps_rpc.specs.declared.position.Position.{Position}
use Rattle.cps_rpc.specs.declared.position.Range.{Range}
use Rattle.cps_rpc.specs.Params.{Change, new_name_in, position_at}
use Rattle.cps_server.specs.Completions.{edit}
use Rattle.cps_server.specs.Document.{source_of_text}
use Rattle.cps_server.specs.Notices.{changed_by}
use Rattle.cps_server.specs.Ranges.{range_of}
use Rattle.cps_server.specs.Results.{text_json}
use Rattle.cps_server.specs.ServerState.{OpenText}
use Rattle.cps_server.specs.Symbols.{pointed}

-- ---- what is asked

-- the name at a position is to be called otherwise
pub record Wish : Type 0 where
  pub position : Position
  pub new_name : List ℕ

abbrev pub wish_in : Data → Option Wish
wish_in json =
    option_and_then (λ at. option_map (λ name. record { position = at; new_name = name }) (new_name_in json)) (position_at json)

-- ---- the name at a position

-- a name that may be called otherwise: where it stands, and what it is
abbrev pub place_json : Data → List ℕ → Data
place_json range name = object (member (codes "placeholder") (text_json name) (member (codes "range") range no_members))

-- some name, in the line of a position
abbrev pub TellsName : Position → Data → Type 0
TellsName at json = (start end : ℕ) × (name : List ℕ) × (json ≡ place_json (range_of at.line start end) name)

-- ---- edits

-- text in the place of what stands in a line from so many units up to others
pub record Edit : Type 0 where
  pub line : ℕ
  pub start : ℕ
  pub end : ℕ
  pub text : List ℕ

abbrev pub position_of : ℕ → ℕ → Position
position_of line units = record { line = line; character = units }

-- it is a change
abbrev pub change_of : Edit → Change
change_of e = record {
  range = Some (record { start = position_of e.line e.start; end = position_of e.line e.end });
  text = e.text;
}

-- a text with edits, one after another
abbrev pub edited : Encoding → List Edit → List ℕ → List ℕ
edited encoding edits text = changed_by encoding (map change_of edits) text

-- edits as they are told
abbrev pub edit_json : Edit → Data
edit_json e = edit (range_of e.line e.start e.end) (string e.text)

abbrev pub edits_json : List Edit → Data
edits_json edits = array (items_of (map edit_json edits))

-- those of the document of a URI
abbrev pub workspace_edit : List ℕ → List Edit → Data
workspace_edit uri edits = object (member (codes "changes") (object (member uri (edits_json edits) no_members)) no_members)

-- a version; null where it isn't known
abbrev pub version_json : Option ℤ → Data
version_json None = null
version_json (Some version) = number (of_integer version)

-- the same, of a version of that document
abbrev pub told_version : List ℕ → Data → Data
told_version uri version = object (member (codes "uri") (string uri) (member (codes "version") version no_members))

abbrev pub document_edits : Data → Data → Data
document_edits document edits = object (member (codes "edits") edits (member (codes "textDocument") document no_members))

abbrev pub versioned_edit : List ℕ → Option ℤ → List Edit → Data
versioned_edit uri version edits =
    object (member (codes "documentChanges") (array (items_of (document_edits (told_version uri (version_json version)) (edits_json edits) ∷ []))) no_members)

-- by the version of an open text, where an editor takes that
abbrev pub edits_told : Client → OpenText → List Edit → Data
edits_told client one edits = if client.takes_versions then versioned_edit one.uri one.version edits else workspace_edit one.uri edits

-- ---- a renaming

-- no symbol is called otherwise, or the one at the position is, by the new name
abbrev pub IsWished : Encoding → List ℕ → Wish → Calling → Type 0
IsWished encoding text wish Same = ⊤
IsWished encoding text wish (Renamed from to) = (pointed encoding text wish.position ≡ Some from) × (name_of wish.new_name ≡ Some to)

-- a text is assembled to the same as another, but for what its symbols are called
abbrev pub IsSameText : Calling → List ℕ → List ℕ → Type 0
IsSameText calling before after = SameBut calling (assembly_of (source_of_text before)) (assembly_of (source_of_text after))

-- a text with edits is
abbrev pub IsRename : Calling → Encoding → List ℕ → List Edit → Type 0
IsRename calling encoding text edits = IsSameText calling text (edited encoding edits text)

-- such edits are told of an open text
abbrev pub TellsRename : Encoding → Client → OpenText → Wish → Data → Type 0
TellsRename encoding client one wish json =
    (calling : Calling) × (edits : List Edit) × IsWished encoding one.text wish calling × IsRename calling encoding one.text edits
    × (json ≡ edits_told client one edits)
