use Rattle.std.proofs.Common.{[], ◌++◌, ap, ◌∙◌}
use Rattle.cps_markup.specs.Links.{Leads}
use Rattle.cps_markup.specs.Markup.{closing}
use Rattle.cps_markup.proofs.AddsLemmas.{adds-before, adds-cut, adds-row, adds-text}
use Rattle.cps_markup.proofs.stretch.push_row.Goals as goal

pub returns : goal.returns
returns c =
    let P = Leads c.args.targets.now in
    let shown = c.args.shown.now in
    let noted = adds-before P _ [] _ _ _ c.in_ok-push_columns.ensures c.in_ok-push_row_note.ensures in
    let inside = adds-row P shown.is_summary c.is_flagged.result c.split_at.result.0.now c.args.page.now.items c.push_row_opening.new.page.items c.push_row_note.new.page.items c.push_closing.new.page.items
    c.in_ok-push_row_opening.ensures noted (c.in_ok-push_closing.ensures ∙ ap (λ tag. c.push_row_note.new.page.items ++ closing tag) c.row_tag.ensures) in
    adds-cut P c.text_length.result shown.text.now _ _ _ _ c.push_text.new.page.items c.split_at.ensures.front c.split_at.ensures.back inside (adds-text P _ _ _ c.in_ok-push_text.ensures)
