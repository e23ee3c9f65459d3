use Rattle.std.proofs.Common.{List, map, ap, ◌∙◌}
use Rattle.cps_expr.specs.Value.{same_name}
use Rattle.cps_final.specs.Distinct.{distinct}
use Rattle.cps_list.specs.declared.mention.Mention.{Mention}
use Rattle.cps_server.proofs.CompletionLemmas.{inserted}
use Rattle.cps_server.proofs.names.defined_in.Goals as goal

pub returns : goal.returns
returns c =
    inserted _ _ _ c.no_names-names.ensures c.in_ok-insert_names.ensures
    ∙ ap (λ (mentions : List Mention). distinct same_name (map (λ mention. mention.name) mentions)) (c.deref.ensures.value ∙ c.in_ok-definitions.ensures)
