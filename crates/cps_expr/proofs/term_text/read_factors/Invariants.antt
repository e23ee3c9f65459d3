use Rattle.std.proofs.Common.{◌≡◌, length}
use Rattle.std.specs.Prelude.{is_none, IfSome}
use Rattle.cps_expr.specs.Term.{tokens_of, factors_of}
use Rattle.cps_expr.proofs.JoinLemmas.{joined}
use Rattle.cps_expr.proofs.term_text.read_factors.Given as goal

abbrev pub invariant-loop-rest : goal.invariant-loop-rest
invariant-loop-rest l = record {
  readable : is_none (factors_of l.radix (tokens_of l.rest)) ≡ is_none (factors_of l.radix (tokens_of l.text));
  factors : IfSome l.factors (λ kept. joined kept.items (factors_of l.radix (tokens_of l.rest)) ≡ factors_of l.radix (tokens_of l.text));
}

abbrev pub decreases-loop-rest : goal.decreases-loop-rest
decreases-loop-rest l = length l.rest
