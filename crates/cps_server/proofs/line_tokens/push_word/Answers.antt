use Rattle.std.proofs.Common.{sym, subst}
use Rattle.cps_server.specs.Code.TokenList.{EndBy}
use Rattle.cps_server.proofs.TokenLemmas.{token-more}
use Rattle.cps_server.proofs.line_tokens.push_word.Goals as goal

pub returns-in_ok-push-in-Some-clause-ended : goal.returns-in_ok-push-in-Some-clause-ended
returns-in_ok-push-in-Some-clause-ended c =
    let encoding = c.args.deck.encoding in
    let text = c.args.deck.document.now in
    let token = c.in-Some.token in
    subst (EndBy encoding text c.args.number token.end) (sym c.in_ok-push-in-Some.ensures.items)
    (token-more encoding text c.args.number c.args.free c.args.tokens.now.items token c.requires c.in-Some.ensures)
