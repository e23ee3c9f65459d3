use Rattle.std.proofs.Common.{rules, map, sym, ap, ◌∙◌}
use Rattle.std.proofs.lemmas.Fn.{filter_same}
use Rattle.std.specs.Prelude.{option_map}
use Rattle.cps_server.specs.Code.Opened.{value_of}
use Rattle.cps_server.specs.ServerState.{without}
use Rattle.cps_server.proofs.TextLemmas.{without-kept, without-none}
use Rattle.cps_server.proofs.open_texts.OpenTexts.take.Goals as goal

pub returns-clause-left : goal.returns-clause-left
returns-clause-left c =
    ap (map value_of) (filter_same _ _ _ (λ x b f' k. search rules) _ _ c.retain.ensures.filtered)
    ∙ without-kept c.args.uri.now _
    ∙ ap (without c.args.uri.now) c.self.view_is
    ∙ c.take_first-found.ensures.left

pub returns-clause-none : goal.returns-clause-none
returns-clause-none c = λ none. returns-clause-left c ∙ without-none _ _ (sym c.take_first-found.ensures.open ∙ ap (option_map value_of) none)
