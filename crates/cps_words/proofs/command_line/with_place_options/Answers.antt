use Rattle.std.proofs.Common.{ap₂, refl, ◌∙◌}
use Rattle.std.proofs.lemmas.Result.{IfOk-weaker}
use Rattle.clap.specs.Words.{with_rule}
use Rattle.cps_words.proofs.command_line.with_place_options.Goals as goal

pub returns-clause-app : goal.returns-clause-app
returns-clause-app c =
    let with_entry = c.in_ok-command.ensures.app ∙ ap₂ with_rule refl c.option.ensures.rule in
    let with_code = c.in_ok-command-2.ensures.app ∙ ap₂ with_rule with_entry c.option-2.ensures.rule in
    IfOk-weaker c.with_argument-3.result _ _ (λ r h. h ∙ ap₂ with_rule with_code c.option-3.ensures.rule) c.with_argument-3.ensures.app

pub returns-clause-local : goal.returns-clause-local
returns-clause-local c =
    IfOk-weaker c.with_argument-3.result _ _ (λ r h. h ∙ c.in_ok-command-2.ensures.local ∙ c.in_ok-command.ensures.local) c.with_argument-3.ensures.local
