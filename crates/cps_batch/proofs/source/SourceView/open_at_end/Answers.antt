use Rattle.std.proofs.Common.{ap, ◌∙◌, List, ℕ}
use Rattle.cps_final.specs.Finals.{is_open_at_end}
use Rattle.cps_edit.specs.Assembly.{ends_open}
use Rattle.cps_batch.proofs.source.SourceView.open_at_end.Goals as goal

pub returns : goal.returns
returns c = c.is_open_at_end.ensures ∙ ap is_open_at_end c.self.invariant.gathered ∙ ap (λ (lines : List (List ℕ)). ends_open lines) c.self.view_is
