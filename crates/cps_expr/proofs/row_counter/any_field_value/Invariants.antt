use Rattle.std.proofs.Common.{◌≡◌, drop, map}
use Rattle.std.specs.List.{list_any}
use Rattle.cps_expr.specs.Expression.{has_counter}
use Rattle.cps_expr.proofs.row_counter.any_field_value.Given as goal

abbrev pub invariant-loop-field : goal.invariant-loop-field
invariant-loop-field l = list_any has_counter (map (λ field. field.value) (drop l.field-index l.fields)) ≡ list_any has_counter (map (λ field. field.value) l.fields)
