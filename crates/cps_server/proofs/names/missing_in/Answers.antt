use Rattle.std.proofs.Common.{◌≡◌, ◌∙◌}
use Rattle.cps_expr.specs.Value.{same_name}
use Rattle.cps_final.specs.Distinct.{distinct}
use Rattle.cps_server.specs.Completions.{others_than}
use Rattle.cps_server.specs.Symbols.{mentions_in}
use Rattle.cps_server.proofs.CompletionLemmas.{inserted}
use Rattle.cps_server.proofs.names.missing_in.Goals as goal

pub returns : goal.returns
returns c =
    let mentions : c.deref.result.now ≡ mentions_in c.args.document.now = c.deref.ensures.value ∙ c.in_ok-mentions.ensures in
    inserted _ _ _ c.no_names-names.ensures c.in_ok-insert_missing.ensures
    ∙ (λ i. distinct same_name (others_than (c.in_ok-defined.ensures i) (mentions i)))
