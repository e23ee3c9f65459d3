-- What a server tells of the blanks between a text's fields. The forms are those of the Language Server Protocol 3.17. Into which columns fields go is tested, not
-- proved.
use Rattle.std.specs.Prelude.{◌≡◌, ◌≤◌, ℕ, List, All, map}
use Rattle.serde_json.specs.Data.{Data}
use Rattle.cps_mention.specs.declared.calling.Calling.TheVariants.{Same}
use Rattle.cps_mention.specs.Spacing.{unblanked}
use Rattle.cps_rpc.specs.declared.encoding.Encoding.{Encoding}
use Rattle.cps_rpc.specs.declared.position.Range.{Range}
use Rattle.cps_rpc.specs.Lines.{text_lines}
use Rattle.cps_server.specs.Renames.{Edit, IsSameText, edited, edits_json}

-- only blanks change: there are as many lines, each has the same characters beside its blanks, and the text is assembled to the same
pub record IsSpaced (before after : List ℕ) : Type 0 where
  pub lines : map unblanked (text_lines after) ≡ map unblanked (text_lines before)
  pub assembly : IsSameText Same before after

-- by edits, one after another
abbrev pub IsFormat : Encoding → List ℕ → List Edit → Type 0
IsFormat encoding text edits = IsSpaced text (edited encoding edits text)

-- an edit is of a line of a range, from its first through its last
pub record IsInRange (range : Range) (edit : Edit) : Type 0 where
  pub first : range.start.line ≤ edit.line
  pub last : edit.line ≤ range.end.line

-- such edits are told of a text, and of its lines in a range
abbrev pub TellsFormat : Encoding → List ℕ → Data → Type 0
TellsFormat encoding text json = (edits : List Edit) × IsFormat encoding text edits × (json ≡ edits_json edits)

abbrev pub TellsFormatIn : Encoding → List ℕ → Range → Data → Type 0
TellsFormatIn encoding text range json =
    (edits : List Edit) × IsFormat encoding text edits × All (IsInRange range) edits × (json ≡ edits_json edits)
