-- For the code, not part of what a reader believes: what a move makes anew of lines, each with the place that it had.
use Rattle.std.specs.Prelude.{ℕ, List, [], ◌∷◌, ◌++◌, take, drop}
use Rattle.cps_state.specs.Keys.{State, first_state}
use Rattle.cps_state.specs.Course.{Trace}
use Rattle.cps_edit.specs.declared.exchange.Exchange.{Exchange}
use Rattle.cps_edit.specs.Passes.{after, state_after, traces_of}
use Rattle.cps_chunk.specs.declared.sparse.SparseItem.{SparseItem}
use Rattle.cps_chunk.specs.Replayed.{replayed}
use Rattle.cps_chunk.specs.Code.Walk.{stretch}

-- what stands in front of each of some lines, where that stands in front of the first
abbrev pub fronts : State → List (List ℕ) → List State
fronts state [] = []
fronts state (line ∷ lines) = state ∷ fronts (after state line) lines

-- What stands behind the lines in front of both runs; behind the second run, which comes there; and behind the first run, which follows it.
abbrev pub state_before : List (List ℕ) → Exchange → State
state_before lines e = state_after first_state (take e.keep lines)

abbrev pub state_between : List (List ℕ) → Exchange → State
state_between lines e = state_after (state_before lines e) (stretch e.mid e.from lines)

abbrev pub state_past : List (List ℕ) → Exchange → State
state_past lines e = state_after (state_between lines e) (stretch e.keep e.mid lines)

-- what stands now in front of each line, where the lines have their old order
abbrev pub fronts_moved : List (List ℕ) → Exchange → List State
fronts_moved lines e =
    fronts first_state (take e.keep lines)
    ++ (fronts (state_between lines e) (stretch e.keep e.mid lines)
    ++ (fronts (state_before lines e) (stretch e.mid e.from lines) ++ fronts (state_past lines e) (drop e.from lines)))

-- what the lines do now that are disturbed in pass one: those of the first run, those of the second, those behind both, and all
abbrev pub first_replayed : List (List ℕ) → Exchange → List (SparseItem Trace)
first_replayed lines e = replayed (state_between lines e) e.keep (stretch e.keep e.mid lines) (stretch e.keep e.mid (traces_of lines))

abbrev pub second_replayed : List (List ℕ) → Exchange → List (SparseItem Trace)
second_replayed lines e = replayed (state_before lines e) e.mid (stretch e.mid e.from lines) (stretch e.mid e.from (traces_of lines))

abbrev pub behind_replayed : List (List ℕ) → Exchange → List (SparseItem Trace)
behind_replayed lines e = replayed (state_past lines e) e.from (drop e.from lines) (drop e.from (traces_of lines))

abbrev pub replayed_moved : List (List ℕ) → Exchange → List (SparseItem Trace)
replayed_moved lines e = first_replayed lines e ++ (second_replayed lines e ++ behind_replayed lines e)
