-- For an assembled source, not part of what a reader believes: what is kept of it.
use Rattle.std.specs.Prelude.{◌≡◌, ℕ, ◌≤◌, List, length}
use Rattle.cps_final.specs.Finals.{Finals, finals_of}
use Rattle.cps_final.specs.Outcome.{Outcome}
use Rattle.cps_edit.specs.Assembly.{outcomes_of, traces_of}
use Rattle.cps_edit.specs.Limits.{most_lines}

-- what pass two makes of each line, and what was gathered of all
pub record IsKept (lines : List (List ℕ)) (outcomes : List Outcome) (finals : Finals) : Type 0 where
  pub few : length lines ≤ most_lines
  pub made : outcomes ≡ outcomes_of lines
  pub gathered : finals ≡ finals_of (traces_of lines)
