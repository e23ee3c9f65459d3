use Rattle.std.proofs.Common.{ap, ◌∙◌}
use Rattle.cps_server.specs.Tokens.{data_of}
use Rattle.cps_server.proofs.HintLemmas.{if-ok-as}
use Rattle.cps_server.proofs.tokens.tell_tokens.Goals as goal

pub returns : goal.returns
returns c =
    if-ok-as c.tell_data.result (λ json is. (c.in_ok-tokens.tokens.items, c.in_ok-tokens.ensures.tokens, is ∙ ap data_of c.deref.ensures.value)) c.tell_data.ensures
