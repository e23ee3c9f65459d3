use Rattle.std.proofs.Common.{ap, ◌∙◌}
use Rattle.cps_final.specs.Finals.{is_open_at_end}
use Rattle.cps_edit.specs.Assembly.{ends_open}
use Rattle.cps_live.specs.Edits.{Source}
use Rattle.cps_live.proofs.session.SessionView.open_at_end.Goals as goal

pub returns : goal.returns
returns c = c.is_open_at_end.ensures ∙ ap is_open_at_end c.self.invariant.kept.finals ∙ ap (λ (s : Source). ends_open s.lines) c.self.view_is
