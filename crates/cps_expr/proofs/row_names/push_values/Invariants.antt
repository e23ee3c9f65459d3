use Rattle.std.proofs.Common.{◌≡◌, ◌++◌, drop, map}
use Rattle.std.specs.List.{flat_map}
use Rattle.cps_expr.specs.Expression.{names_of}
use Rattle.cps_expr.proofs.row_names.push_values.Given as goal

abbrev pub invariant-loop-field : goal.invariant-loop-field
invariant-loop-field l = l.names.items ++ flat_map names_of (map (λ field. field.value) (drop l.field-index l.fields)) ≡ l.initial.names.items ++ flat_map names_of (map (λ field. field.value) l.fields)
