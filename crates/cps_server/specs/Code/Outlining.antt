-- For the code, not part of what a reader believes: rows of an outline, and those that are taken from others.
use Rattle.std.specs.Prelude.{◌≡◌, ℕ, List, ◌++◌, map, flat_map, All}
use Rattle.std.specs.List.Sorted.{IsPermutation}
use Rattle.serde_json.specs.Data.{Data}
use Rattle.serde_json.specs.View.{view}
use Rattle.serde_json.specs.declared.value.Value.{Value}
use Rattle.cps_server.specs.declared.outline_row.OutlineRow.{OutlineRow}
use Rattle.cps_server.specs.Outline.{IsRow, IsRowBetween, IsSection, Section}

-- a row, as it is told
abbrev pub row_json : OutlineRow → Data
row_json row = view row.json

-- it is in its line
abbrev pub IsPlaced : OutlineRow → Type 0
IsPlaced row = IsRow row.line (row_json row)

-- it tells something, and is in its line
abbrev pub TellsPlaced : {A : Type 0} → (A → Data → Type 0) → A → OutlineRow → Type 0
TellsPlaced tells told row = tells told (row_json row) × IsPlaced row

-- rows of lines from one up to another are taken from others
pub record TakesRows (first end : ℕ) (old new : List OutlineRow) (taken : List Value) : Type 0 where
  pub within : All (IsRowBetween first end) (map view taken)
  pub placed : All IsPlaced new
  pub same : IsPermutation (map row_json old) (map view taken ++ map row_json new)

-- sections are told of rows that are taken from others
pub record AddsSections (old new : List OutlineRow) (told : List Value) : Type 0 where
  pub sections : List Section
  pub each : All IsSection sections
  pub placed : All IsPlaced new
  pub are : map view told ≡ map (λ section. section.json) sections
  pub same : IsPermutation (map row_json old) (flat_map (λ section. section.rows) sections ++ map row_json new)
