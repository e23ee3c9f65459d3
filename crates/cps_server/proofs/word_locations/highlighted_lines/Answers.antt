use Rattle.std.proofs.Common.{subst, ◌∙◌}
use Rattle.std.specs.Prelude.{IfOk}
use Rattle.serde_json.specs.View.{view}
use Rattle.cps_server.specs.Results.{TellsEach, TellsHighlight}
use Rattle.cps_server.proofs.word_locations.highlighted_lines.Goals as goal

pub returns : goal.returns
returns c =
    subst (λ mentions. IfOk c.tell_highlights.result (λ json. TellsEach TellsHighlight mentions (view json))) (c.deref.ensures.value ∙ c.in_ok-mentions.ensures)
    c.tell_highlights.ensures
