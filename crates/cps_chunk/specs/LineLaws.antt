-- What holds of each source line: the laws of all courses, of the one that a line has. Our own.
use Rattle.std.specs.Prelude.{◌≡◌, ℕ, false, List, ◌∷◌, map}
use Rattle.cps_state.specs.Course.{Course, stop, Holds}
use Rattle.cps_state.specs.Keys.{State}
use Rattle.cps_pass.specs.Bounded.{AreFew, EachOnce}
use Rattle.cps_pass.specs.Expansion.{line_part, trace_of}
use Rattle.cps_chunk.specs.CourseLaws.{entry_of, own_entry}
use Rattle.cps_chunk.specs.Listed.{Entry, expansion, is_dropped, trace_by_list}

-- what a source line does before nothing else
abbrev pub line_course : List ℕ → Course
line_course line = line_part line stop

-- the statements that it stands for
abbrev pub line_expansion : List ℕ → State → List Entry
line_expansion line state = expansion (line_course line) state

abbrev pub LineIsOfTheList : Type 0
LineIsOfTheList = (line : List ℕ) (state : State) → trace_of line state ≡ trace_by_list (line_course line) state

abbrev pub LineItemsAreTheList : Type 0
LineItemsAreTheList = (line : List ℕ) (state : State)
    → is_dropped (line_expansion line state) ≡ false → map entry_of (trace_of line state).items ≡ own_entry ∷ line_expansion line state

abbrev pub LineItemsAreFew : Type 0
LineItemsAreFew = (line : List ℕ) (state : State) → AreFew (trace_of line state).items

abbrev pub LineDependsOnAsksAlone : Type 0
LineDependsOnAsksAlone = (line : List ℕ) (state other : State) → Holds (trace_of line state).asks other → trace_of line other ≡ trace_of line state

abbrev pub LineAsksEachKeyOnce : Type 0
LineAsksEachKeyOnce = (line : List ℕ) (state : State) → EachOnce (trace_of line state).asks
