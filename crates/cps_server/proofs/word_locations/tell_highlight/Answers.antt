use Rattle.std.proofs.Common.{ap, ◌∙◌}
use Rattle.serde_json.specs.View.{view}
use Rattle.cps_server.specs.Results.{highlight}
use Rattle.cps_server.proofs.HintLemmas.{if-ok-as}
use Rattle.cps_server.proofs.word_locations.tell_highlight.Goals as goal

pub returns : goal.returns
returns c =
    let range = view c.in_ok-range.range in
    if-ok-as c.highlight.result (λ json is. (range, c.in_ok-range.ensures, is ∙ ap (λ kind. highlight kind range) c.highlight_kind.ensures)) c.highlight.ensures
