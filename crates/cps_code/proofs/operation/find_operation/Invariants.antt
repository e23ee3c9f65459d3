use Rattle.std.proofs.Common.{◌≡◌, drop}
use Rattle.cps_code.specs.Rows.{named}
use Rattle.cps_code.specs.Code.Operations.{operation_values}
use Rattle.cps_code.proofs.operation.find_operation.Given as goal

abbrev pub invariant-loop-letters : goal.invariant-loop-letters
invariant-loop-letters l = named (operation_values (drop l.letters-index l.operations)) l.name ≡ named (operation_values l.operations) l.name
