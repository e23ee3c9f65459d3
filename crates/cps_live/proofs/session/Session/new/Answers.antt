use Rattle.std.proofs.Common.{arith, ap, length}
use Rattle.cps_live.proofs.session.Session.new.Goals as goal

pub invariant_of-result : goal.invariant_of-result
invariant_of-result c = record { few = omega (arith, ap length c.new.ensures.lines); kept = c.new.ensures.kept }
