use Rattle.std.proofs.Common.{ap, ◌∙◌, List, ℕ}
use Rattle.cps_final.specs.Finals.{finals_of}
use Rattle.cps_edit.specs.Assembly.{traces_of}
use Rattle.cps_batch.proofs.source.SourceView.finals.Goals as goal

pub returns : goal.returns
returns c = c.self.invariant.gathered ∙ ap (λ (lines : List (List ℕ)). finals_of (traces_of lines)) c.self.view_is
