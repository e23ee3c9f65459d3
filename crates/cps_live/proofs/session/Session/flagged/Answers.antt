use Rattle.std.proofs.Common.{arith, length, ap, ◌∙◌}
use Rattle.cps_final.specs.Finals.{is_open_at_end}
use Rattle.cps_list.specs.Flagged.{flagged_with}
use Rattle.cps_live.specs.Edits.{Source}
use Rattle.cps_edit.specs.Flagged.{flagged_lines}
use Rattle.cps_live.proofs.SessionLemmas.{length-outcomes}
use Rattle.cps_live.proofs.session.Session.flagged.Goals as goal

pub overflow_cast-result : goal.overflow_cast-result
overflow_cast-result c =
    let held = c.self.invariant in
    let each = ap length (c.deref.ensures.value ∙ held.kept.lines.made) ∙ length-outcomes c.self.inside.kept.lines.items in
    omega (arith, each, held.few, c.flagged_lines.ensures.within)

pub returns : goal.returns
returns c =
    let kept = c.self.invariant.kept in
    let outcomes = c.deref.ensures.value ∙ kept.lines.made in
    let is_open = c.is_open_at_end.ensures ∙ ap is_open_at_end kept.finals in
    c.flagged_lines.ensures.count ∙ (λ i. flagged_with (is_open i) (outcomes i)) ∙ ap (λ (s : Source). flagged_lines s.lines) c.self.view_is
