use Rattle.cps_server.specs.Code.TokenList.{EndBy, KeepsBetween}
use Rattle.cps_server.proofs.line_tokens.push_words.Given as goal

-- the tokens so far end before the units that are free
abbrev pub invariant-loop-word : goal.invariant-loop-word
invariant-loop-word l = record {
  ended : EndBy l.deck.encoding l.deck.document.now l.number l.free l.tokens.items;
  lines : KeepsBetween l.number l.fn.tokens.items l.tokens.items;
}
