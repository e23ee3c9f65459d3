use Rattle.std.proofs.Common.{ap, ◌∙◌}
use Rattle.cps_final.specs.Finals.{finals_of}
use Rattle.cps_edit.specs.Assembly.{traces_of}
use Rattle.cps_live.specs.Edits.{Source}
use Rattle.cps_live.proofs.session.SessionView.finals.Goals as goal

pub returns : goal.returns
returns c = c.self.invariant.kept.finals ∙ ap (λ (s : Source). finals_of (traces_of s.lines)) c.self.view_is
