use Rattle.std.proofs.Common.{◌≡◌, ◌++◌, ◌∷◌, drop, take, length}
use Rattle.std.specs.Prelude.{map, filter_map}
use Rattle.cps_expr.specs.Term.{name_in}
use Rattle.cps_expr.proofs.term.push_all_names.Given as goal

abbrev pub invariant-loop-factor : goal.invariant-loop-factor
invariant-loop-factor l = record {
  names : l.names.items ++ filter_map name_in (map (λ factor. factor.element) (drop l.factor-index l.factors))
      ≡ l.fn.names.items ++ filter_map name_in (l.fn.first ∷ map (λ factor. factor.element) l.factors);
  front : take (length l.fn.names.items) l.names.items ≡ l.fn.names.items;
}
