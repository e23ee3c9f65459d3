-- A check says of a source what batch assembly says. Our own.
use Rattle.std.specs.Prelude.{◌≡◌, ◌↔◌, ℕ, false, List}
use Rattle.cps_input.specs.Sources.{IsSource}
use Rattle.cps_edit.specs.Flagged.{flagged_lines}
use Rattle.cps_check.specs.Reports.{Report, Reports, has_errors}

-- no error is told of lines exactly where a source may have them and none is flagged
abbrev pub Agrees : Type 0
Agrees =
    (lines : List (List ℕ)) (reports : List Report) → Reports lines reports → (has_errors reports ≡ false) ↔ (IsSource lines × (flagged_lines lines ≡ 0))
