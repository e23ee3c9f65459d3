use Rattle.std.proofs.Common.{◌∙◌}
use Rattle.serde_json.specs.View.{view}
use Rattle.cps_server.specs.Requests.{capabilities_of}
use Rattle.cps_server.proofs.HintLemmas.{if-ok-as}
use Rattle.cps_server.proofs.introducing.capabilities.Goals as goal

pub returns : goal.returns
returns c =
    if-ok-as c.capabilities_by.result
    (λ json is. is ∙ (λ i. capabilities_of (c.encoding_name.ensures i) (c.in_ok-mendings.ensures i) (c.in_ok-names.ensures i) (c.in_ok-words.ensures i)
    (c.in_ok-operands.ensures i) (c.in_ok-texts.ensures i)))
    c.capabilities_by.ensures
