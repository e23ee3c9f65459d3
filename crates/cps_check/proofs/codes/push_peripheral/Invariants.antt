use Rattle.std.proofs.Common.{◌≡◌, ◌++◌, take}
use Rattle.std.specs.Prelude.{flat_map}
use Rattle.cps_code.specs.Code.Operations.{texts}
use Rattle.cps_check.specs.Codes.{fitting_peripheral}
use Rattle.cps_check.proofs.codes.push_peripheral.Given as goal

abbrev pub invariant-loop-name : goal.invariant-loop-name
invariant-loop-name l = l.rows.items ≡ l.fn.rows.items ++ flat_map (fitting_peripheral l.given) (texts (take l.name-index l.names))
