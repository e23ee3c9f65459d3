use Rattle.std.proofs.Common.{rules, arith, length, ap}
use Rattle.cps_live.proofs.session.Session.enter.Goals as goal

pub invariant_of-result : goal.invariant_of-result
invariant_of-result c =
    let made = c.in_ok-kept.ensures in
    record { few = omega (arith, ap length made.lines, c.requires); kept = made.kept }

pub returns-clause-steps : goal.returns-clause-steps
returns-clause-steps c =
    let steps = c.in_ok-kept.ensures.steps in
    record { ones = steps.ones; twos = steps.twos; ones_least = steps.ones_least; twos_least = steps.twos_least; ones_most = steps.ones_most; twos_most = steps.twos_most }

pub returns-in_err-kept-clause-steps : goal.returns-in_err-kept-clause-steps
returns-in_err-kept-clause-steps c =
    let steps = c.in_err-kept.ensures.steps in
    record { ones = search rules; twos = search rules; ones_least = steps.ones_least; twos_least = steps.twos_least; ones_most = steps.ones_most; twos_most = steps.twos_most }
