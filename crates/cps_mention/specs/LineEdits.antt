-- Edits of the lines of a source. Our own.
use Rattle.std.specs.Prelude.{ℕ, ◌+◌, ◌-◌, ◌≤◌, ◌<◌, ◌++◌, List, All, AllPairs, length, take, drop}
use Rattle.cps_text.specs.Line.{longest_line}
use Rattle.cps_mention.specs.declared.line_edit.LineEdit.{LineEdit}
use Rattle.cps_mention.specs.Mentions.{line_of}

-- a line with a text in the place of some columns
abbrev pub edited : List ℕ → LineEdit → List ℕ
edited line edit = take (edit.first - 1) line ++ edit.text.items ++ drop (edit.end - 1) line

-- it changes columns of a line, which may be none, and the line has room for it
pub record FitsIn (text : List ℕ) (edit : LineEdit) : Type 0 where
  pub first : 1 ≤ edit.first
  pub order : edit.first ≤ edit.end
  pub within : edit.end ≤ length text + 1
  pub room : length (edited text edit) ≤ longest_line

-- it is of a line of the source
pub record IsLineEdit (source : List (List ℕ)) (edit : LineEdit) : Type 0 where
  pub one : 1 ≤ edit.line
  pub line : edit.line ≤ length source
  pub columns : FitsIn (line_of source edit.line) edit

-- each stands above the one before it, so that they may be made one after another
pub record AreLineEdits (source : List (List ℕ)) (edits : List LineEdit) : Type 0 where
  pub each : All (IsLineEdit source) edits
  pub upwards : AllPairs (λ edit next. next.line < edit.line) edits
