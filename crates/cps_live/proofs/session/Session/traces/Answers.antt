use Rattle.std.proofs.Common.{ap, ◌∙◌}
use Rattle.cps_edit.specs.Assembly.{traces_of}
use Rattle.cps_live.specs.Edits.{Source}
use Rattle.cps_live.proofs.session.Session.traces.Goals as goal

pub returns : goal.returns
returns c = c.deref.ensures.value ∙ c.self.invariant.kept.lines.did ∙ ap (λ (s : Source). traces_of s.lines) c.self.view_is
