use Rattle.std.proofs.Common.{◌≡◌, ℕ, ◌<◌, false, get_or}
use Rattle.cps_expr.specs.Term.{is_operator}
use Rattle.cps_expr.proofs.term_text.operator_at.Given as goal

abbrev pub invariant-loop-i : goal.invariant-loop-i
invariant-loop-i l = (k : ℕ) → k < l.i → is_operator (get_or l.text k 0) ≡ false
