-- For the code, not part of what a reader believes: what is asked of a name, and the edits that call it otherwise.
use Rattle.std.specs.Prelude.{ℕ, ℤ, List, [], ◌∷◌, Option, map, codes}
use Rattle.serde_json.specs.Data.{Data, array, object, no_members, member}
use Rattle.serde_json.specs.View.{items_of}
use Rattle.cps_server.specs.declared.queried_text.QueriedText.{QueriedText}
use Rattle.cps_server.specs.declared.rename_wish.RenameWish.{RenameWish}
use Rattle.cps_server.specs.declared.text_edit.TextEdit.{TextEdit}
use Rattle.cps_server.specs.Renames.{Edit, TellsRename, Wish, document_edits, told_version, version_json}
use Rattle.cps_server.specs.Requests.{IsOwed, Owed}
use Rattle.cps_server.specs.ServerState.{OpenText}

-- the text that is asked of
abbrev pub open_of : QueriedText → OpenText
open_of deck = record { uri = deck.uri.now; version = deck.version; text = deck.document.now }

abbrev pub wish_of : RenameWish → Wish
wish_of wish = record { position = wish.position; new_name = wish.new_name.now }

abbrev pub edit_of : TextEdit → Edit
edit_of edit = record { line = edit.line; start = edit.units.start; end = edit.units.end; text = edit.text.now }

abbrev pub edits_of : List TextEdit → List Edit
edits_of edits = map edit_of edits

-- a list of edits of a version of a document
abbrev pub versioned : List ℕ → Option ℤ → Data → Data
versioned uri version list =
    object (member (codes "documentChanges") (array (items_of (document_edits (told_version uri (version_json version)) list ∷ []))) no_members)

-- a wish is told of a deck
abbrev pub TellsWish : QueriedText → RenameWish → Data → Type 0
TellsWish deck wish json = TellsRename deck.encoding deck.client (open_of deck) (wish_of wish) json

-- and owed
abbrev pub OwesWish : QueriedText → RenameWish → Owed → Type 0
OwesWish deck wish owed = IsOwed (TellsWish deck wish) owed
