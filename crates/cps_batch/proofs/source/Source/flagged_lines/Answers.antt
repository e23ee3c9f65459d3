use Rattle.std.proofs.Common.{arith, length, ap, ap₂, ◌∙◌, List, ℕ}
use Rattle.cps_edit.specs.Flagged.{flagged_with}
use Rattle.cps_edit.specs.Assembly.{outcomes_of}
use Rattle.cps_batch.proofs.SourceLemmas.{length-outcomes}
use Rattle.cps_batch.proofs.source.Source.flagged_lines.Goals as goal

pub overflow_cast-result : goal.overflow_cast-result
overflow_cast-result c =
    let kept = c.self.invariant in
    let each = ap length (c.deref.ensures.value ∙ kept.made) ∙ length-outcomes c.self.inside.lines.items in
    omega (arith, each, kept.few, c.flagged_lines.ensures.within)

pub returns : goal.returns
returns c =
    let outcomes = c.deref.ensures.value ∙ c.self.invariant.made ∙ ap (λ (lines : List (List ℕ)). outcomes_of lines) c.self.view_is in
    c.flagged_lines.ensures.count ∙ ap₂ flagged_with c.open_at_end.ensures outcomes
