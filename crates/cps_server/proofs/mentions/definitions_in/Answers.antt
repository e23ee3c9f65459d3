use Rattle.std.proofs.Common.{rules, ap, ◌∙◌}
use Rattle.std.proofs.lemmas.Fn.{filter_same}
use Rattle.cps_list.specs.declared.mention.Mention.{Mention}
use Rattle.cps_server.specs.Symbols.{definitions}
use Rattle.cps_server.proofs.mentions.definitions_in.Goals as goal

pub returns : goal.returns
returns c =
    filter_same _ (λ (mention : Mention). mention.is_definition) _ (λ x b f' k. search rules) _ _ c.retain.ensures.filtered
    ∙ ap definitions c.in_ok-mentions.ensures
