-- Rows while they are made.
use Rattle.std.specs.Prelude.{◌≡◌, ℕ, true, List}
use Rattle.cps_drift.specs.Drift.{has_no_newline}

-- a row has no newline yet
abbrev pub IsPlain : List ℕ → Type 0
IsPlain row = has_no_newline row ≡ true

-- what was appended to a row has no newline
abbrev pub StaysPlain : List ℕ → List ℕ → Type 0
StaysPlain old new = IsPlain old → IsPlain new
