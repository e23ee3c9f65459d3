-- For the code that tells of lines, not part of what a reader believes: what is told under the name and the final values of a source.
use Rattle.std.specs.Prelude.{ℕ, Bool, List, map, take}
use Rattle.std.specs.Borrow.{Bor}
use Rattle.cps_state.specs.Course.{Trace}
use Rattle.cps_final.specs.contracts.finals.FinalsGathered.TheImpl.{gathered-value}
use Rattle.cps_final.specs.Finals.{final_value}
use Rattle.cps_final.specs.Outcome.{outcome_of}
use Rattle.cps_edit.specs.Assembly.{outcomes_under}
use Rattle.cps_edit.specs.Limits.{most_lines}
use Rattle.cps_check.specs.declared.line_telling.CheckedLine.{CheckedLine}
use Rattle.cps_check.specs.declared.line_telling.LineTelling.{LineTelling}
use Rattle.cps_check.specs.Code.Adding.{AddsLine, AddsLines}

-- what is told of a line, by what it does in pass one
abbrev pub TellsLine : LineTelling → CheckedLine → Bool → List ℕ → List ℕ → Type 0
TellsLine telling line is_wrong old new =
    AddsLine telling.errors_only telling.name.now line.number line.line.now (outcome_of (final_value (gathered-value.it telling.finals.now)) line.trace.now) is_wrong old new

-- what is told of the first lines, by what each does
abbrev pub TellsLines : LineTelling → List (Bor (List ℕ)) → List Trace → Bool → List ℕ → List ℕ → Type 0
TellsLines telling lines traces is_wrong old new =
    AddsLines telling.errors_only telling.name.now (take most_lines (map (λ line. line.now) lines)) (outcomes_under (gathered-value.it telling.finals.now) traces)
    is_wrong old new
