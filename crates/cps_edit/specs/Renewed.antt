-- What was made anew beside what is kept. Our own.
use Rattle.std.specs.Prelude.{◌≡◌, ℕ, zero, suc, ◌+◌, Bool, List, [], ◌∷◌, length, map, is_some, Option, None, Some, if◌then◌else◌}
use Rattle.cps_state.specs.Keys.{State}
use Rattle.cps_state.specs.Course.{Trace}
use Rattle.cps_pass.specs.Expansion.{trace_of}
use Rattle.cps_final.specs.Outcome.{Resolved}
use Rattle.cps_edit.specs.Passes.{after}
use Rattle.cps_edit.specs.Disturbed.{is_disturbed, is_redone}

-- nothing new, so many times
abbrev pub nones : {X : Type 0} → ℕ → List (Option X)
nones zero = []
nones (suc n) = None ∷ nones n

-- the trace is that of the line in some state
abbrev pub WasMeant : List ℕ → Trace → Type 0
WasMeant line trace = (state : State) × (trace ≡ trace_of line state)

abbrev pub AllWereMeant : List (List ℕ) → List Trace → Type 0
AllWereMeant [] [] = Unit {0}
AllWereMeant [] (trace ∷ traces) = ⊥
AllWereMeant (line ∷ lines) [] = ⊥
AllWereMeant (line ∷ lines) (trace ∷ traces) = WasMeant line trace × AllWereMeant lines traces

-- which of the lines that stay are disturbed
abbrev pub flags_from : State → List (List ℕ) → List Trace → List Bool
flags_from state [] traces = []
flags_from state (line ∷ lines) [] = []
flags_from state (line ∷ lines) (trace ∷ traces) = is_disturbed (Some trace) state ∷ flags_from (after state line) lines traces

-- how many are disturbed in pass two, by what pass one said of each
abbrev pub redone_from : Resolved → Resolved → List Bool → List Trace → ℕ
redone_from was now [] traces = 0
redone_from was now (new ∷ news) [] = 0
redone_from was now (new ∷ news) (trace ∷ traces) = (if is_redone was now new trace then 1 else 0) + redone_from was now news traces

-- the same of lines of which none is disturbed in pass one
abbrev pub redone_kept : Resolved → Resolved → List Trace → ℕ
redone_kept was now traces = redone_from was now (map is_some (nones {X = Trace} (length traces))) traces
