use Rattle.std.proofs.Common.{◌≡◌, false, length}
use Rattle.std.specs.Prelude.{is_none}
use Rattle.cps_expr.specs.Expression.{terms_of, signed_texts}
use Rattle.cps_expr.specs.Code.TermsLeft.{terms_left}
use Rattle.cps_expr.proofs.JoinLemmas.{joined}
use Rattle.cps_expr.proofs.expr.read_signed_terms.Given as goal

abbrev pub invariant-terms : goal.invariant-terms
invariant-terms l = record {
  readable : is_none (terms_left l.radix l.is_minus l.rest) ≡ is_none (terms_of l.radix (signed_texts l.text));
  expression : l.is_refused ≡ false → joined l.expression (terms_left l.radix l.is_minus l.rest) ≡ terms_of l.radix (signed_texts l.text);
}

abbrev pub decreases-terms : goal.decreases-terms
decreases-terms l = length l.rest
