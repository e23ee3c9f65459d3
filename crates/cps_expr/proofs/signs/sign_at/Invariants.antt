use Rattle.std.proofs.Common.{◌≡◌, ℕ, ◌<◌, false, get_or}
use Rattle.cps_expr.specs.Expression.{is_sign}
use Rattle.cps_expr.proofs.signs.sign_at.Given as goal

abbrev pub invariant-loop-i : goal.invariant-loop-i
invariant-loop-i l = (k : ℕ) → k < l.i → is_sign (get_or l.text k 0) ≡ false
