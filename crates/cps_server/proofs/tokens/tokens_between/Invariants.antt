use Rattle.std.specs.List.{All}
use Rattle.cps_server.specs.Code.TokenList.{EndBy, IsBetween}
use Rattle.cps_server.proofs.tokens.tokens_between.Given as goal

-- the tokens so far stand above the line that comes
abbrev pub invariant-loop-number : goal.invariant-loop-number
invariant-loop-number l = record {
  ended : EndBy l.deck.encoding l.deck.document.now l.number 0 l.tokens.items;
  lines : All (IsBetween l.first l.end) l.tokens.items;
}
