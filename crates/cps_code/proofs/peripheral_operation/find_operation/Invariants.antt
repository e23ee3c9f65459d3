use Rattle.std.proofs.Common.{◌≡◌, drop}
use Rattle.cps_code.specs.PeripheralTable.{named}
use Rattle.cps_code.specs.Code.PeripheralRows.{row_values}
use Rattle.cps_code.proofs.peripheral_operation.find_operation.Given as goal

abbrev pub invariant-loop-letters : goal.invariant-loop-letters
invariant-loop-letters l = named (row_values (drop l.letters-index l.operations)) l.name ≡ named (row_values l.operations) l.name
