-- For the code, not part of what a reader believes: the terms of an expression, as they are kept.
use Rattle.std.specs.Prelude.{[], ◌∷◌}
use Rattle.cps_expr.specs.declared.term.Signed.{Signed}
use Rattle.cps_expr.specs.declared.terms.Terms.{Terms}
use Rattle.cps_expr.specs.declared.terms.Terms.TheVariants.{Empty, One, Long}
use Rattle.cps_expr.specs.Expression.{Expression}
use Rattle.cps_expr.specs.Term.{Term}

abbrev pub element_term : Signed → Term
element_term signed = record { is_minus = signed.is_minus; first = signed.element; factors = [] }

abbrev pub terms_in : Terms → Expression
terms_in Empty = []
terms_in (One signed) = element_term signed ∷ []
terms_in (Long terms) = terms.value
