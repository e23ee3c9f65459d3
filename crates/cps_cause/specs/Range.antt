-- Columns that a text has. Our own.
use Rattle.std.specs.Prelude.{ℕ, ◌≤◌, max}
use Rattle.cps_cause.specs.declared.columns.Columns.{Columns}

-- columns of a text of so many, from 1; of a text without columns the first
pub record IsRange (length : ℕ) (columns : Columns) : Type 0 where
  pub some : 1 ≤ columns.first
  pub order : columns.first ≤ columns.last
  pub within : columns.last ≤ max 1 length
