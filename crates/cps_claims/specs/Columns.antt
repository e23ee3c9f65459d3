-- The columns of a row that are read. Our own.
use Rattle.std.specs.Prelude.{ℕ, ◌-◌, List, take, drop, Option, None, Some}
use Rattle.cps_claims.specs.declared.layout.ReadColumns.{ReadColumns}

-- columns count from 1
abbrev pub columns_read : Option ReadColumns → List ℕ → List ℕ
columns_read None row = row
columns_read (Some columns) row = drop (columns.first - 1) (take columns.last row)
