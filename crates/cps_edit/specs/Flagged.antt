-- How many lines of a source are flagged. Our own.
use Rattle.std.specs.Prelude.{ℕ, List}
pub use Rattle.cps_list.specs.Flagged.{flagged_with}
use Rattle.cps_edit.specs.Assembly.{outcomes_of, ends_open}

-- the end of a source where a range is open counts as one
abbrev pub flagged_lines : List (List ℕ) → ℕ
flagged_lines lines = flagged_with (ends_open lines) (outcomes_of lines)
