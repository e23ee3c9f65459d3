use Rattle.std.proofs.Common.{ap, ◌∙◌}
use Rattle.cps_final.specs.Finals.{finals_of}
use Rattle.cps_edit.proofs.pass_one.PassOne.finals.Goals as goal

pub returns : goal.returns
returns c = c.self.invariant ∙ ap finals_of c.self.view_is
