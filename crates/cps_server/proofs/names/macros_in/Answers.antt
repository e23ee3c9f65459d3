use Rattle.std.proofs.Common.{List, ap, ◌∙◌}
use Rattle.cps_expr.specs.Value.{same_name}
use Rattle.cps_state.specs.Course.{Trace}
use Rattle.cps_final.specs.Distinct.{distinct}
use Rattle.cps_final.specs.Layout.{puts_of}
use Rattle.cps_edit.specs.Assembly.{traces_of}
use Rattle.cps_server.specs.Completions.{macros_put}
use Rattle.cps_server.proofs.CompletionLemmas.{inserted}
use Rattle.cps_server.proofs.names.macros_in.Goals as goal

pub returns : goal.returns
returns c =
    inserted _ _ _ c.no_names-names.ensures c.in_ok-insert_macros.ensures
    ∙ ap (λ (traces : List Trace). distinct same_name (macros_put (puts_of traces))) (c.traces.ensures ∙ ap traces_of c.session.ensures)
