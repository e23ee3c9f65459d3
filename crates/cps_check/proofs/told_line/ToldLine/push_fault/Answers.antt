use Rattle.std.proofs.Common.{◌++◌, codes, ap, ◌∙◌}
use Rattle.cps_check.specs.declared.report_kind.ReportKind.TheVariants as kinds
use Rattle.cps_check.specs.Reports.{fault_report}
use Rattle.cps_check.specs.Rows.{fault_rows}
use Rattle.cps_check.specs.Texts.{head_of}
use Rattle.cps_check.proofs.TextLemmas.{Adds-one, four-pieces}
use Rattle.cps_check.proofs.told_line.ToldLine.push_fault.Goals as goal

pub returns : goal.returns
returns c =
    let fault = c.args.fault.now in
    let name = c.args.self.now.name.now in
    let number = c.args.self.now.number in
    let line = c.args.self.now.line.now in
    let old = c.args.text.now.items in
    let words = c.in_ok-words.words in
    Adds-one name (fault_report number line fault) words old c.push_fault_rows.new.text.items c.in_ok-words.ensures
    (four-pieces old (head_of name number fault.first kinds.Wrong) words (codes "\n") (fault_rows number line fault)
    c.push_head.new.text.items c.extend_from_slice.new.self.items c.extend_from_slice-2.new.self.items c.push_fault_rows.new.text.items
    c.in_ok-push_head.ensures
    (c.in_ok-extend_from_slice.ensures.items ∙ ap (λ w. c.push_head.new.text.items ++ w) c.as_slice.ensures)
    c.in_ok-extend_from_slice-2.ensures.items
    c.in_ok-push_fault_rows.ensures)
