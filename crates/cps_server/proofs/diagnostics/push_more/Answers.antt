use Rattle.std.proofs.Common.{sym, ap, ◌∙◌}
use Rattle.std.specs.Prelude.{option_copied}
use Rattle.std.proofs.lemmas.Result.{on_ok_weaker}
use Rattle.cps_rpc.specs.Lines.{source_lines}
use Rattle.cps_server.proofs.WritingLemmas.{more-added, none-more}
use Rattle.cps_server.proofs.diagnostics.push_more.Goals as goal

pub returns-in_default : goal.returns-in_default
returns-in_default c =
    none-more c.args.deck.encoding (source_lines c.args.deck.document.now) c.args.left.marks.now c.args.left.count c.args.list.now.items (sym c.first.ensures.value ∙ ap option_copied c.in_default.is)

pub returns : goal.returns
returns c =
    let there = sym c.first.ensures.value ∙ ap option_copied c.in-Some.is in
    let counts = c.deref.ensures ∙ c.in_ok-message.ensures in
    on_ok_weaker c.push_information.result
    (more-added c.args.deck.encoding (source_lines c.args.deck.document.now) c.args.left.marks.now c.args.left.count c.in-Some.mark.now c.line_of-line.result.now c.of-stretch.result c.deref.result.now
    c.args.list.now.items c.push.new.self.items c.push_information.new.text.items there c.line_of-line.ensures c.of-stretch.ensures counts c.in_ok-push.ensures.items)
    c.push_information.ensures
