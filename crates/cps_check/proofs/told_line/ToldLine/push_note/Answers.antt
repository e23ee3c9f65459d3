use Rattle.std.proofs.Common.{◌++◌, codes, ap, ◌∙◌}
use Rattle.cps_check.specs.declared.report_kind.ReportKind.TheVariants as kinds
use Rattle.cps_check.specs.Reports.{note_report}
use Rattle.cps_check.specs.Rows.{note_rows}
use Rattle.cps_check.specs.Texts.{head_of}
use Rattle.cps_check.proofs.TextLemmas.{Adds-one, four-pieces}
use Rattle.cps_check.proofs.told_line.ToldLine.push_note.Goals as goal

pub returns : goal.returns
returns c =
    let note = c.args.note.now in
    let name = c.args.self.now.name.now in
    let number = c.args.self.now.number in
    let line = c.args.self.now.line.now in
    let old = c.args.text.now.items in
    let words = c.in_ok-words.words in
    Adds-one name (note_report number line note) words old c.push_note_rows.new.text.items c.in_ok-words.ensures
    (four-pieces old (head_of name number note.columns.first kinds.Note) words (codes "\n") (note_rows number line note)
    c.push_head.new.text.items c.extend_from_slice.new.self.items c.extend_from_slice-2.new.self.items c.push_note_rows.new.text.items
    c.in_ok-push_head.ensures
    (c.in_ok-extend_from_slice.ensures.items ∙ ap (λ w. c.push_head.new.text.items ++ w) c.as_slice.ensures)
    c.in_ok-extend_from_slice-2.ensures.items
    c.in_ok-push_note_rows.ensures)
