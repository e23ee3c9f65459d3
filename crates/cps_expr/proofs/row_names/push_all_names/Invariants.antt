use Rattle.std.proofs.Common.{◌≡◌, ◌++◌, drop}
use Rattle.std.specs.List.{flat_map}
use Rattle.cps_expr.specs.Expression.{names_of}
use Rattle.cps_expr.proofs.row_names.push_all_names.Given as goal

abbrev pub invariant-loop-value : goal.invariant-loop-value
invariant-loop-value l = l.names.items ++ flat_map names_of (drop l.value-index l.values) ≡ l.initial.names.items ++ flat_map names_of l.values
