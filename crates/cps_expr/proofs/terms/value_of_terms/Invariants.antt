use Rattle.std.proofs.Common.{◌≡◌, ◌||◌, drop}
use Rattle.std.specs.Prelude.{fold, IfSome}
use Rattle.std.specs.List.{list_any}
use Rattle.cps_expr.specs.Value.{term_value, added, both, value_in, has_undefined, IsInRange}
use Rattle.cps_expr.specs.Code.ValuedSoFar.{term_has_undefined}
use Rattle.cps_expr.proofs.terms.value_of_terms.Given as goal

abbrev pub invariant-loop-term : goal.invariant-loop-term
invariant-loop-term g l = record {
  value : fold (λ so_far term. both (added term.is_minus) so_far (term_value (g.N.Names.value l.names) l.here term)) l.so_far.value (drop l.term-index l.terms)
      ≡ value_in (g.N.Names.value l.names) l.here l.terms;
  undefined : (l.so_far.undefined || list_any (term_has_undefined (g.N.Names.value l.names)) (drop l.term-index l.terms)) ≡ has_undefined (g.N.Names.value l.names) l.terms;
  range : IfSome l.so_far.value IsInRange;
}
