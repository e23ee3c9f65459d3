-- Which lines an edit disturbs, by the source before it and the source after it alone. A line of the new source is disturbed in pass one if it is new, or if
-- the old source had it and a key that it asked there has another answer at its new place. It is disturbed in pass two if it is disturbed in pass
-- one, or if something that its statements name has another final value. Our own.
use Rattle.std.specs.Prelude.{ℕ, ◌+◌, Bool, true, not, ◌||◌, List, [], ◌∷◌, ◌++◌, take, drop, map, Option, None, Some, if◌then◌else◌}
use Rattle.cps_state.specs.Keys.{State, first_state}
use Rattle.cps_state.specs.Course.{Trace}
use Rattle.cps_final.specs.Finals.{finals_of, final_value}
use Rattle.cps_final.specs.Outcome.{Resolved}
use Rattle.cps_edit.specs.Passes.{after, traces_of}
use Rattle.cps_final.specs.Holds.{holds}
use Rattle.cps_final.specs.Agreeing.{same_named}
use Rattle.cps_edit.specs.declared.exchange.Exchange.{Exchange}
use Rattle.cps_edit.specs.Exchange.{exchanged}
use Rattle.cps_edit.specs.Splice.{Splice, spliced}

-- ---- counterparts

-- a line of the new source, and what the same line did in the old one; None: it is new
pub record Placed : Type 0 where
  pub line : List ℕ
  pub old : Option Trace

abbrev pub kept : List (List ℕ) → List Trace → List Placed
kept [] traces = []
kept (line ∷ lines) [] = []
kept (line ∷ lines) (trace ∷ traces) = record { line = line; old = Some trace } ∷ kept lines traces

abbrev pub fresh : List ℕ → Placed
fresh line = record { line = line; old = None }

abbrev pub all_kept : List (List ℕ) → List Placed
all_kept lines = kept lines (traces_of lines)

-- the lines of the new source
abbrev pub placed : List (List ℕ) → Splice → List Placed
placed lines splice = take splice.keep (all_kept lines) ++ (map fresh splice.new ++ drop splice.from (all_kept lines))

-- ---- pass one

abbrev pub is_disturbed : Option Trace → State → Bool
is_disturbed None state = true
is_disturbed (Some trace) state = not (holds trace.asks state)

-- how many of some lines are disturbed, the first of them in this state
abbrev pub disturbed_from : State → List Placed → ℕ
disturbed_from state [] = 0
disturbed_from state (place ∷ places) = (if is_disturbed place.old state then 1 else 0) + disturbed_from (after state place.line) places

-- how many lines an edit disturbs in pass one
abbrev pub ones_of : List (List ℕ) → Splice → ℕ
ones_of lines splice = disturbed_from first_state (placed lines splice)

-- ---- pass two

-- the final values of a source
abbrev pub finals_in : List (List ℕ) → Resolved
finals_in lines = final_value (finals_of (traces_of lines))

-- the line is disturbed in pass one, or it names something that has another final value
abbrev pub is_redone : Resolved → Resolved → Bool → Trace → Bool
is_redone was now disturbed trace = disturbed || not (same_named was now trace.items)

abbrev pub is_redone_at : Resolved → Resolved → Option Trace → State → Bool
is_redone_at was now None state = true
is_redone_at was now (Some trace) state = is_redone was now (is_disturbed (Some trace) state) trace

abbrev pub redone_places : Resolved → Resolved → State → List Placed → ℕ
redone_places was now state [] = 0
redone_places was now state (place ∷ places) =
    (if is_redone_at was now place.old state then 1 else 0) + redone_places was now (after state place.line) places

-- how many lines an edit disturbs in pass two
abbrev pub twos_of : List (List ℕ) → Splice → ℕ
twos_of lines splice = redone_places (finals_in lines) (finals_in (spliced lines splice)) first_state (placed lines splice)

-- ---- a move

-- A move makes no line new: each line of the new source is one of the old source, and did there what that one did.

-- how many lines it disturbs in pass one
abbrev pub ones_of_exchange : List (List ℕ) → Exchange → ℕ
ones_of_exchange lines e = disturbed_from first_state (exchanged e (all_kept lines))

-- and how many in pass two
abbrev pub twos_of_exchange : List (List ℕ) → Exchange → ℕ
twos_of_exchange lines e = redone_places (finals_in lines) (finals_in (exchanged e lines)) first_state (exchanged e (all_kept lines))
