-- For the look-up of an operation, not part of what a reader believes: the table as the code keeps it.
use Rattle.std.specs.Prelude.{ℕ, ◌==◌, List, map, filter, slice_index}
use Rattle.std.specs.Borrow.{Bor}
use Rattle.cps_code.specs.declared.layout.Layout.{Layout}
use Rattle.cps_code.specs.PeripheralTable.{Row}

abbrev pub row_values : List (Bor (List ℕ) × Layout × ℕ) → List Row
row_values entries = map (λ entry. record { operation = entry.0.now; layout = entry.1; number = entry.2 }) entries

-- the rows whose operations begin with a letter
abbrev pub beginning_with : ℕ → List Row → List Row
beginning_with letter rows = filter (λ row. slice_index row.operation 0 == letter) rows

abbrev pub layout_and_number : Row → Layout × ℕ
layout_and_number row = (row.layout, row.number)
