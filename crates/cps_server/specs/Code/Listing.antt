-- For the code, not part of what a reader believes: the marks of a text that are told first, and how many there are.
use Rattle.std.specs.Prelude.{◌≡◌, ℕ, ◌+◌, ◌-◌, List, ◌++◌, length, take, map}
use Rattle.cps_rpc.specs.Lines.{source_lines}
use Rattle.cps_edit.specs.Assembly.{ends_open, outcomes_of}
use Rattle.cps_server.specs.Document.{source_of_text}
use Rattle.cps_server.specs.declared.first_marks.FirstMarks.{FirstMarks}
use Rattle.cps_server.specs.Marks.{Mark, Marks, MarksEnd, MarksLines, place_of}
use Rattle.cps_server.specs.Diagnostics.{most_told}

-- the first of some marks, one more than are told one by one, and how many they all are
pub record Lists (marks : List Mark) (list : FirstMarks) : Type 0 where
  pub first : map place_of list.first.items ≡ take (most_told + 1) marks
  pub count : list.count ≡ length marks

-- more marks are added
abbrev pub ListsMore : List Mark → FirstMarks → FirstMarks → Type 0
ListsMore more old new = (marks : List Mark) → Lists marks old → Lists (marks ++ more) new

-- those of a source's end are
abbrev pub ListsEnd : List (List ℕ) → FirstMarks → FirstMarks → Type 0
ListsEnd source old new = (end : List Mark) × MarksEnd (ends_open source) (length source - 1) end × ListsMore end old new

-- those of the first lines of a text, of so many
pub record ListsLines (text : List ℕ) (count : ℕ) (list : FirstMarks) : Type 0 where
  pub marks : List Mark
  pub each : MarksLines 0 (take count (source_lines text)) (take count (outcomes_of (source_of_text text))) marks
  pub lists : Lists marks list

-- those of a text
abbrev pub ListsMarks : List ℕ → FirstMarks → Type 0
ListsMarks text list = (marks : List Mark) × Marks text marks × Lists marks list
