use Rattle.cps_server.proofs.TokenLemmas.{keeps-both}
use Rattle.cps_server.proofs.line_tokens.push_words.Goals as goal

pub loop-word-preserved : goal.loop-word-preserved
loop-word-preserved c = record {
  ended = c.in_ok-free.ensures.ended;
  lines = keeps-both c.args.number c.args.tokens.now.items c.loop-word.tokens.items c.push_word.new.tokens.items c.loop-word.invariant.lines
      c.in_ok-free.ensures.lines;
}
