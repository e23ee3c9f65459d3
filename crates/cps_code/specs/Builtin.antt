-- The operations that a macro may not have: those of either machine, and those of the statement table. Our profile's.
use Rattle.std.specs.Prelude.{ℕ, Bool, ◌||◌, List, is_some}
use Rattle.cps_expr.specs.Operation.{operation_named}
pub use Rattle.cps_code.specs.Table.{is_operation}
use Rattle.cps_code.specs.PeripheralTable.{is_operation as is_peripheral_operation}

abbrev pub is_builtin : List ℕ → Bool
is_builtin name = is_some (operation_named name) || (is_operation name || is_peripheral_operation name)
