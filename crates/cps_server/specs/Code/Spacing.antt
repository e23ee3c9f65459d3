-- For the code, not part of what a reader believes: edits that change blanks alone.
use Rattle.std.specs.Prelude.{ℕ, List, All}
use Rattle.std.specs.declared.vec.Vec.{Vec}
use Rattle.cps_mention.specs.Spacing.{unblanked}
use Rattle.cps_rpc.specs.declared.position.Range.{Range}
use Rattle.cps_server.specs.declared.queried_text.QueriedText.{QueriedText}
use Rattle.cps_server.specs.declared.text_edit.TextEdit.{TextEdit}
use Rattle.cps_server.specs.Code.Renaming.{edit_of, edits_of}
use Rattle.cps_server.specs.Formats.{IsFormat, IsInRange}

-- the characters of a text of bytes beside its blanks
abbrev pub unblanked_text : {Z : Type 0} → Vec ℕ Z → List ℕ
unblanked_text text = unblanked text.items

-- an edit is of a line of a range
abbrev pub StandsIn : Range → TextEdit → Type 0
StandsIn range edit = IsInRange range (edit_of edit)

-- edits in the lines of a range change blanks of a deck alone
pub record AreFormats (deck : QueriedText) (range : Range) (edits : List TextEdit) : Type 0 where
  pub alone : IsFormat deck.encoding deck.document.now (edits_of edits)
  pub within : All (StandsIn range) edits
