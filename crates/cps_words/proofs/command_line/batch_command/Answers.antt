use Rattle.std.proofs.Common.{ap, ap₂, ◌∙◌}
use Rattle.std.proofs.lemmas.Result.{IfOk-weaker}
use Rattle.clap.specs.Words.{App, with_rule}
use Rattle.cps_words.proofs.command_line.batch_command.Goals as goal

pub returns-clause-shape : goal.returns-clause-shape
returns-clause-shape c =
    let with_part = c.in_ok-command.ensures.app ∙ ap₂ with_rule c.bare_command-command.ensures.app c.option.ensures.rule in
    let with_listing = c.in_ok-command-2.ensures.app ∙ ap₂ with_rule with_part c.option-2.ensures.rule in
    let with_binary = c.in_ok-command-3.ensures.app ∙ ap₂ with_rule with_listing c.option-3.ensures.rule in
    let with_symbols = c.in_ok-command-4.ensures.app ∙ ap₂ with_rule with_binary c.option-4.ensures.rule in
    let with_flags = c.in_ok-command-5.ensures.app ∙ ap₂ with_rule with_symbols c.option-5.ensures.rule in
    let with_page = c.in_ok-command-6.ensures.app ∙ ap₂ with_rule with_flags c.option-6.ensures.rule in
    IfOk-weaker c.with_argument-7.result _ _ (λ r h. ap (λ (a : App). a.top) (h ∙ ap₂ with_rule with_page c.operand.ensures.rule))
    c.with_argument-7.ensures.app

pub returns-clause-local : goal.returns-clause-local
returns-clause-local c =
    IfOk-weaker c.with_argument-7.result _ _ (λ r h. h ∙ c.in_ok-command-6.ensures.local ∙ c.in_ok-command-5.ensures.local ∙ c.in_ok-command-4.ensures.local ∙ c.in_ok-command-3.ensures.local
    ∙ c.in_ok-command-2.ensures.local ∙ c.in_ok-command.ensures.local ∙ c.bare_command-command.ensures.local) c.with_argument-7.ensures.local
