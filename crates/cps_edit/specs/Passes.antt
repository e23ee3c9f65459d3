-- Pass one of a source: a fold over its lines. The state before each line, and what the line asks, puts and makes there.
-- From the manual's section on the two passes.
use Rattle.std.specs.Prelude.{ℕ, List, [], ◌∷◌, map}
use Rattle.cps_state.specs.Keys.{State, first_state, overwritten}
use Rattle.cps_state.specs.Course.{Trace}
use Rattle.cps_pass.specs.Expansion.{trace_of}
use Rattle.cps_final.specs.Outcome.{Resolved, Outcome, outcome_of}

-- the state after a line
abbrev pub after : State → List ℕ → State
after state line = overwritten state (trace_of line state).puts

-- the state after some lines
abbrev pub state_after : State → List (List ℕ) → State
state_after state [] = state
state_after state (line ∷ lines) = state_after (after state line) lines

-- what each of some lines does, in the state before it
abbrev pub traces_from : State → List (List ℕ) → List Trace
traces_from state [] = []
traces_from state (line ∷ lines) = trace_of line state ∷ traces_from (after state line) lines

abbrev pub traces_of : List (List ℕ) → List Trace
traces_of lines = traces_from first_state lines

-- what pass two makes of lines that did this in pass one
abbrev pub outcomes_by : Resolved → List Trace → List Outcome
outcomes_by finals traces = map (outcome_of finals) traces
