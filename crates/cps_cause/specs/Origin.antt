-- In which line of a source a statement is written that a line's expansion has. Our own.
use Rattle.std.specs.Prelude.{◌≡◌, ℕ, ◌+◌, ◌-◌, ◌≤◌, Bool, true, false, if◌then◌else◌, List, [], ◌∷◌, slice_get, Option, Some, None}
use Rattle.cps_state.specs.Course.{Trace}
use Rattle.cps_state.specs.Keys.{same_key}
use Rattle.cps_state.specs.declared.key.Put.{Put}
use Rattle.cps_state.specs.declared.key.Key.TheVariants as key
use Rattle.cps_cause.specs.declared.origin.BodyLine.{BodyLine}
use Rattle.cps_cause.specs.declared.origin.Origin.{Origin}
use Rattle.cps_cause.specs.declared.origin.Origin.TheVariants.{Line, Dup, Macro}

-- a line that puts this is kept as one of a body, behind so many others
abbrev pub keeps : ℕ → List Put → Bool
keeps before [] = false
keeps before (put ∷ puts) = if same_key put.key (key.Kept before) then true else keeps before puts

-- the line of a number, from 1, where the line of another number closes the body: it stands as far above as so many lines of the body ask, and is kept as this one
pub record IsBodyLine (traces : List Trace) (closing : ℕ) (line : BodyLine) (number : ℕ) : Type 0 where
  pub some : 1 ≤ number
  pub place : number + line.count ≡ closing + line.before
  pub trace : Trace
  pub there : slice_get traces (number - 1) ≡ Some trace
  pub kept : keeps line.before trace.puts ≡ true

-- of the line of this number, where the definition of a macro ended in another
abbrev pub IsWrittenIn : List Trace → ℕ → Option ℕ → Origin → ℕ → Type 0
IsWrittenIn traces number defined Line line = ⊥
IsWrittenIn traces number defined (Dup body) line = IsBodyLine traces number body line
IsWrittenIn traces number None (Macro name body) line = ⊥
IsWrittenIn traces number (Some closing) (Macro name body) line = IsBodyLine traces closing body line
