use Rattle.std.proofs.Common.{◌+◌, ◌≤◌, ap, ◌∙◌, arith}
use Rattle.cps_server.specs.Tokens.{data_of}
use Rattle.cps_server.proofs.HintLemmas.{if-ok-as}
use Rattle.cps_server.proofs.TokenLemmas.{in-range}
use Rattle.cps_server.proofs.tokens.tokens_in.Goals as goal

pub returns : goal.returns
returns c =
    let below : c.min-end.result ≤ c.args.range.end.line + 1 = omega (arith, c.min-end.ensures, c.saturating_add.ensures) in
    let tokens = c.in_ok-tokens.tokens.items in
    if-ok-as c.tell_data.result
    (λ json is. (tokens, c.in_ok-tokens.ensures.tokens, in-range c.args.range c.min-end.result tokens below c.in_ok-tokens.ensures.lines, is ∙ ap data_of c.deref.ensures.value)) c.tell_data.ensures
