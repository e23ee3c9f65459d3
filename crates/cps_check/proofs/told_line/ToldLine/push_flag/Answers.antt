use Rattle.std.proofs.Common.{◌++◌, codes, ap, ◌∙◌}
use Rattle.cps_cause.specs.declared.letter.Letter.{Letter}
use Rattle.cps_cause.specs.Letters.{letter_of}
use Rattle.cps_check.specs.declared.report_kind.ReportKind.TheVariants as kinds
use Rattle.cps_check.specs.Reports.{flag_report}
use Rattle.cps_check.specs.Rows.{flag_rows}
use Rattle.cps_check.specs.Texts.{head_of}
use Rattle.cps_check.proofs.TextLemmas.{Adds-one, four-pieces}
use Rattle.cps_check.proofs.told_line.ToldLine.push_flag.Goals as goal

pub returns : goal.returns
returns g c =
    let told = c.args.told.now in
    let name = c.args.self.now.name.now in
    let number = c.args.self.now.number in
    let line = c.args.self.now.line.now in
    let old = c.args.text.now.items in
    let words = c.in_ok-words.words in
    Adds-one name (flag_report number line told) words old c.push_flag_rows.new.text.items c.in_ok-words.ensures
    (four-pieces old (head_of name number told.columns.first (kinds.Flag (letter_of told.cause))) words (codes "\n") (flag_rows number line told)
    c.push_head.new.text.items c.extend_from_slice.new.self.items c.extend_from_slice-2.new.self.items c.push_flag_rows.new.text.items
    (c.in_ok-push_head.ensures ∙ ap (λ (l : Letter). old ++ head_of name number told.columns.first (kinds.Flag l)) c.letter-letter.ensures)
    (c.in_ok-extend_from_slice.ensures.items ∙ ap (λ w. c.push_head.new.text.items ++ w) c.as_slice.ensures)
    c.in_ok-extend_from_slice-2.ensures.items
    c.in_ok-push_flag_rows.ensures)
