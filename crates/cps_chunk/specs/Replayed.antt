-- What an edit makes anew of lines that were there before, each with its place. Our own.
use Rattle.std.specs.Prelude.{ℕ, zero, suc, Bool, List, [], ◌∷◌, ◌++◌, take, drop, is_some, Some, unwrap_or, if◌then◌else◌}
use Rattle.cps_state.specs.Keys.{State, first_state}
use Rattle.cps_state.specs.Course.{Trace}
use Rattle.cps_state.specs.declared.key.Put.{Put}
use Rattle.cps_pass.specs.Expansion.{trace_of}
use Rattle.cps_final.specs.Outcome.{Resolved, Outcome, outcome_of}
use Rattle.cps_chunk.specs.declared.sparse.SparseItem.{SparseItem}
use Rattle.cps_chunk.specs.Sparse.{item_at, one_if}
use Rattle.cps_edit.specs.Passes.{after, state_after, traces_of}
use Rattle.cps_edit.specs.Disturbed.{is_disturbed, is_redone}
use Rattle.cps_edit.specs.Splice.{Splice}

-- what the lines do now that are disturbed in pass one: lines from a place on, the first of them in this state, which did that
abbrev pub replayed : State → ℕ → List (List ℕ) → List Trace → List (SparseItem Trace)
replayed state i [] traces = []
replayed state i (line ∷ lines) [] = []
replayed state i (line ∷ lines) (trace ∷ traces) = one_if (is_disturbed (Some trace) state) i (trace_of line state) ++ replayed (after state line) (suc i) lines traces

-- in how many steps of pass one a line is gone over that did this: in one, where it is disturbed
abbrev pub steps_at : State → Trace → ℕ
steps_at state trace = if is_disturbed (Some trace) state then 1 else 0

-- what a line puts
abbrev pub puts_at : State → List ℕ → List Put
puts_at state line = (trace_of line state).puts

-- what pass two makes now of the lines that are disturbed in it: lines from a place on, which did that, and of which some do this now
abbrev pub redone : Resolved → Resolved → ℕ → List (SparseItem Trace) → List Trace → List (SparseItem Outcome)
redone was now i news [] = []
redone was now i news (trace ∷ traces) =
    one_if (is_redone was now (is_some (item_at news i)) trace) i (outcome_of now (unwrap_or (item_at news i) trace)) ++ redone was now (suc i) news traces

-- at which of so many places from one on there is an item
abbrev pub flags_at : ℕ → ℕ → List (SparseItem Trace) → List Bool
flags_at i zero news = []
flags_at i (suc n) news = is_some (item_at news i) ∷ flags_at (suc i) n news

-- ---- of a splice

-- the state in front of the new lines, and behind them
abbrev pub state_front : List (List ℕ) → Splice → State
state_front lines splice = state_after first_state (take splice.keep lines)

abbrev pub state_behind : List (List ℕ) → Splice → State
state_behind lines splice = state_after (state_front lines splice) splice.new

-- what the lines behind them do now that are disturbed in pass one, each at the place that it had
abbrev pub replayed_behind : List (List ℕ) → Splice → List (SparseItem Trace)
replayed_behind lines splice = replayed (state_behind lines splice) splice.from (drop splice.from lines) (drop splice.from (traces_of lines))

-- and what pass two makes now of the lines that are disturbed in it, in front of the new lines and behind them
abbrev pub redone_front : Resolved → Resolved → List (List ℕ) → Splice → List (SparseItem Outcome)
redone_front was now lines splice = redone was now 0 [] (take splice.keep (traces_of lines))

abbrev pub redone_behind : Resolved → Resolved → List (List ℕ) → Splice → List (SparseItem Outcome)
redone_behind was now lines splice = redone was now splice.from (replayed_behind lines splice) (drop splice.from (traces_of lines))
