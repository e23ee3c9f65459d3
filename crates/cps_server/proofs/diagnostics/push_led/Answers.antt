use Rattle.std.proofs.lemmas.Result.{on_ok_weaker}
use Rattle.cps_server.proofs.WritingLemmas.{mark-added}
use Rattle.cps_server.proofs.diagnostics.push_led.Goals as goal

pub returns : goal.returns
returns c =
    on_ok_weaker c.push_diagnostic.result
    (mark-added c.args.deck c.args.led.mark.now c.line_of-line.result.now c.of-stretch.result c.args.message.now c.relation_to-relation.result
    c.args.list.now.items c.push_diagnostic.new.text.items c.line_of-line.ensures c.of-stretch.ensures c.relation_to-relation.ensures) c.push_diagnostic.ensures
