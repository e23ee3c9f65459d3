use Rattle.std.proofs.Common.{◌≡◌, ◌||◌, drop, map}
use Rattle.std.specs.Prelude.{fold}
use Rattle.std.specs.List.{list_any}
use Rattle.cps_expr.specs.Value.{element_value, multiplied, both}
use Rattle.cps_expr.specs.Code.ValuedSoFar.{is_undefined}
use Rattle.cps_expr.proofs.term.with_factors.Given as goal

abbrev pub invariant-loop-factor : goal.invariant-loop-factor
invariant-loop-factor g l = record {
  value :
      fold (λ so_far factor. both (multiplied factor.operator) so_far (element_value (g.N.Names.value l.names) l.here factor.element)) l.so_far.value (drop l.factor-index l.factors)
      ≡ fold (λ so_far factor. both (multiplied factor.operator) so_far (element_value (g.N.Names.value l.names) l.here factor.element)) l.fn.first.value l.factors;
  undefined :
      (l.so_far.undefined || list_any (is_undefined (g.N.Names.value l.names)) (map (λ factor. factor.element) (drop l.factor-index l.factors)))
      ≡ (l.fn.first.undefined || list_any (is_undefined (g.N.Names.value l.names)) (map (λ factor. factor.element) l.factors));
}
