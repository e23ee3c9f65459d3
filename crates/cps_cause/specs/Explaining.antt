-- Why a line is flagged as it is: causes whose letters are its flags, each at columns that the line has. Our own.
use Rattle.std.specs.Prelude.{◌≡◌, ℕ, true, List, All, fold, length}
use Rattle.cps_state.specs.declared.flags.Flags.{Flags}
use Rattle.cps_state.specs.Flags.{joined}
use Rattle.cps_state.specs.Made.{no_flags}
use Rattle.cps_final.specs.declared.row.Row.{Row}
use Rattle.cps_final.specs.Outcome.{flags_of}
use Rattle.cps_cause.specs.declared.diagnostic.Diagnostic.{Diagnostic}
use Rattle.cps_cause.specs.Letters.{letter_of, only}
use Rattle.cps_cause.specs.Range.{IsRange}

-- the flags whose letters causes have
abbrev pub flags_told : List Diagnostic → Flags
flags_told told = fold (λ all d. joined (only (letter_of d.cause) true) all) no_flags told

-- the causes of a line that has these rows: each flag of the line has a cause, and each cause a flag; all show at columns of the line
pub record Explains (line : List ℕ) (rows : List Row) (told : List Diagnostic) : Type 0 where
  pub letters : flags_told told ≡ flags_of rows
  pub columns : All (λ d. IsRange (length line) d.columns) told
