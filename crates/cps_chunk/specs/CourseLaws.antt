-- What holds of each line, whatever its course is. Our own.
use Rattle.std.specs.Prelude.{◌≡◌, false, [], ◌∷◌, map}
use Rattle.cps_state.specs.declared.item.Item.{Item}
use Rattle.cps_state.specs.Course.{Course, Holds}
use Rattle.cps_state.specs.Keys.{State}
use Rattle.cps_pass.specs.Bounded.{AreFew, EachOnce}
use Rattle.cps_chunk.specs.Listed.{Entry, expansion, is_dropped, trace_in, trace_by_list}

-- ---- the list of its statements

-- what a line does follows from the list of its statements
abbrev pub TraceIsOfTheList : Type 0
TraceIsOfTheList = (course : Course) (state : State) → trace_in course state ≡ trace_by_list course state

-- the statement that an item is of
abbrev pub entry_of : Item → Entry
entry_of item = record { depth = item.depth; text = item.text }

-- the line's own statement
abbrev pub own_entry : Entry
own_entry = record { depth = 0; text = [] }

-- a line that isn't dropped has an item for its own statement and then one for each statement of the list, in order
abbrev pub ItemsAreTheList : Type 0
ItemsAreTheList = (course : Course) (state : State)
    → is_dropped (expansion course state) ≡ false → map entry_of (trace_in course state).items ≡ own_entry ∷ expansion course state

-- ---- how many items there are

abbrev pub ItemsAreFew : Type 0
ItemsAreFew = (course : Course) (state : State) → AreFew (trace_in course state).items

-- ---- what it asks

-- a line does the same in two states that agree on what it asked
abbrev pub DependsOnAsksAlone : Type 0
DependsOnAsksAlone = (course : Course) (state other : State) → Holds (trace_in course state).asks other → trace_in course other ≡ trace_in course state

abbrev pub AsksEachKeyOnce : Type 0
AsksEachKeyOnce = (course : Course) (state : State) → EachOnce (trace_in course state).asks
