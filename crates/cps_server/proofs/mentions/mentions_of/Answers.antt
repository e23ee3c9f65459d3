use Rattle.std.proofs.Common.{rules, ap, ◌∙◌}
use Rattle.std.proofs.lemmas.Fn.{filter_same}
use Rattle.cps_list.specs.Symbols.{mentions_of}
use Rattle.cps_server.proofs.mentions.mentions_of.Goals as goal

pub returns : goal.returns
returns c = filter_same _ _ _ (λ x b f' k. search rules) _ _ c.retain.ensures.filtered ∙ ap (mentions_of c.args.name) c.in_ok-mentions.ensures
