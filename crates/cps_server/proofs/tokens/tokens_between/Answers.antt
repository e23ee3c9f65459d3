use Rattle.cps_server.proofs.TokenLemmas.{none-between, none-ended}
use Rattle.cps_server.proofs.tokens.tokens_between.Goals as goal

pub loop-number-init : goal.loop-number-init
loop-number-init c = record {
  ended = none-ended c.args.deck.encoding c.args.deck.document.now c.args.first 0 c.new-tokens.result.items c.new-tokens.ensures.items;
  lines = none-between c.args.first c.args.end c.new-tokens.result.items c.new-tokens.ensures.items;
}

pub loop-number-preserved : goal.loop-number-preserved
loop-number-preserved c = record {
  ended = c.in_ok-push_line.ensures.ended;
  lines = c.in_ok-push_line.ensures.lines c.args.first c.args.end c.loop-number.auto.number c.loop-number-test.true c.loop-number.invariant.lines;
}
