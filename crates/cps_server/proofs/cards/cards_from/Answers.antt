use Rattle.std.proofs.Common.{◌<◌, ◌≤◌, length, arith}
use Rattle.cps_rpc.specs.Lines.{source_lines}
use Rattle.cps_server.proofs.SourceLemmas.{card-more}
use Rattle.cps_server.proofs.cards.cards_from.Goals as goal

pub loop-at-preserved : goal.loop-at-preserved
loop-at-preserved c =
    let source = source_lines c.args.buffer.now in
    let behind : c.args.first ≤ c.loop-at.at = omega arith in
    let within : c.loop-at.at < length source = omega arith in
    card-more source c.loop-at.cards.items c.push.new.self.items c.args.first c.loop-at.at c.source_line.result.now c.in_ok-card_of.field-0
    behind within c.loop-at.invariant c.source_line.ensures c.in_ok-card_of.ensures c.in_ok-push.ensures.items
