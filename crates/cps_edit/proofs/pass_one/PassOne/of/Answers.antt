use Rattle.std.proofs.Common.{ap, sym, ◌∙◌}
use Rattle.cps_final.specs.Finals.{finals_of}
use Rattle.cps_edit.proofs.pass_one.PassOne.of.Goals as goal

pub invariant_of-result : goal.invariant_of-result
invariant_of-result c = c.in_ok-traces.ensures.gathered ∙ ap finals_of (sym c.in_ok-traces.ensures.traces)
