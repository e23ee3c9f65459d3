-- For the session, not part of what a reader believes: what it keeps of its source.
use Rattle.std.specs.Prelude.{◌≤◌, length}
use Rattle.cps_live.specs.Code.Editing.{IsKept}
use Rattle.cps_live.specs.declared.kept_source.KeptSource.{KeptSource}
use Rattle.cps_edit.specs.Limits.{most_lines}

-- what is kept of no more lines than a source may have
pub record IsHeld (source : KeptSource) : Type 0 where
  pub few : length source.lines.items ≤ most_lines
  pub kept : IsKept source
