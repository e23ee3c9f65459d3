-- For the code that goes over lines, not part of what a reader believes: what was gathered of lines, and of one line more.
use Rattle.std.specs.Prelude.{◌≡◌, ℕ, List, [], ◌∷◌, ◌++◌}
use Rattle.cps_state.specs.Course.{Trace}
use Rattle.cps_final.specs.Finals.{Gathers}
use Rattle.cps_final.specs.declared.finals.Finals.{Finals as Gather}
use Rattle.cps_final.specs.contracts.finals.FinalsGathered.TheImpl.{gathered-value}
use Rattle.cps_edit.specs.Passes.{traces_of}

-- these lines were gathered
abbrev pub AreGathered : List (List ℕ) → Gather → Type 0
AreGathered lines gathered = Gathers (gathered-value.it gathered) (traces_of lines)

-- this is what a line does behind these lines
abbrev pub IsTrace : List (List ℕ) → List ℕ → Trace → Type 0
IsTrace before line trace = traces_of (before ++ line ∷ []) ≡ traces_of before ++ trace ∷ []

-- behind any lines that were gathered a line does this, and is gathered
abbrev pub GathersLine : List ℕ → Trace → Gather → Gather → Type 0
GathersLine line trace old new = (before : List (List ℕ)) → AreGathered before old → IsTrace before line trace × AreGathered (before ++ line ∷ []) new
