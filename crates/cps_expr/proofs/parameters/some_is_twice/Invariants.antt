use Rattle.std.proofs.Common.{◌≡◌, drop}
use Rattle.std.specs.List.{list_any}
use Rattle.cps_expr.specs.Code.Twice.{is_twice}
use Rattle.cps_expr.proofs.parameters.some_is_twice.Given as goal

abbrev pub invariant-loop-name : goal.invariant-loop-name
invariant-loop-name l = list_any (is_twice l.names) (drop l.name-index l.names) ≡ list_any (is_twice l.names) l.names
