use Rattle.serde_json.specs.View.{view}
use Rattle.cps_server.proofs.HintLemmas.{if-ok-as}
use Rattle.cps_server.proofs.word_locations.tell_mention.Goals as goal

pub returns : goal.returns
returns c = if-ok-as c.location.result (λ json is. (view c.in_ok-range.range, c.in_ok-range.ensures, is)) c.location.ensures
