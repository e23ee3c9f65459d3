use Rattle.cps_server.proofs.HintLemmas.{if-ok-as}
use Rattle.cps_server.proofs.formatting.format_text.Goals as goal

pub returns : goal.returns
returns c = if-ok-as c.format_range.result (λ json is. (is.0, is.1, is.3)) c.format_range.ensures
