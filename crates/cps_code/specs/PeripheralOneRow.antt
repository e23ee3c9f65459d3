-- A law of the table: each operation stands in one row. So the first row of a name is the only one.
use Rattle.std.specs.Prelude.{◌≢◌, AllPairs}
use Rattle.cps_code.specs.PeripheralTable.{pp_table}

abbrev pub OneRowEach : Type 0
OneRowEach = AllPairs (λ row other. row.operation ≢ other.operation) pp_table
