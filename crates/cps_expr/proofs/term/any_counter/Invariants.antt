use Rattle.std.proofs.Common.{◌≡◌, drop, map}
use Rattle.std.specs.List.{list_any}
use Rattle.cps_expr.specs.Term.{is_counter}
use Rattle.cps_expr.proofs.term.any_counter.Given as goal

abbrev pub invariant-loop-factor : goal.invariant-loop-factor
invariant-loop-factor l = list_any is_counter (map (λ factor. factor.element) (drop l.factor-index l.factors)) ≡ list_any is_counter (map (λ factor. factor.element) l.factors)
