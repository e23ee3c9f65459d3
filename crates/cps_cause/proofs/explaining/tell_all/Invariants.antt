use Rattle.std.proofs.Common.{◌≡◌}
use Rattle.cps_cause.proofs.explaining.tell_all.Given as goal

abbrev pub invariant-loop-diagnostic : goal.invariant-loop-diagnostic
invariant-loop-diagnostic l = (l.teller.wanted ≡ l.fn.teller.wanted) × (l.teller.length ≡ l.fn.teller.length)
