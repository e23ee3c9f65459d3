use Rattle.std.proofs.Common.{ap, ◌∙◌}
use Rattle.cps_final.specs.Finals.{finals_of}
use Rattle.cps_edit.proofs.pass_one.PassOne.into_parts.Goals as goal

pub returns-clause-gather : goal.returns-clause-gather
returns-clause-gather c = c.self.invariant ∙ ap finals_of c.self.view_is
