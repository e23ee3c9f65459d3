use Rattle.std.proofs.Common.{ap, ap₂, fold, ◌∙◌}
use Rattle.std.proofs.lemmas.Result.{IfOk-weaker}
use Rattle.clap.specs.Words.{App, with_rule}
use Rattle.cps_words.specs.Commands.{limit_rules, reading_rules}
use Rattle.cps_words.proofs.command_line.compare_command.Goals as goal

pub returns-clause-shape : goal.returns-clause-shape
returns-clause-shape c =
    let with_reading = c.in_ok-command.ensures.app ∙ ap (λ a. fold with_rule a reading_rules) c.bare_command-command.ensures.app in
    let with_limits = c.in_ok-command-2.ensures.app ∙ ap (λ a. fold with_rule a limit_rules) with_reading in
    let with_octal = c.in_ok-command-3.ensures.app ∙ ap₂ with_rule with_limits c.wanted_operand.ensures.rule in
    IfOk-weaker c.with_argument-2.result _ _ (λ r h. ap (λ (a : App). a.top) (h ∙ ap₂ with_rule with_octal c.operand.ensures.rule))
    c.with_argument-2.ensures.app

pub returns-clause-local : goal.returns-clause-local
returns-clause-local c =
    IfOk-weaker c.with_argument-2.result _ _ (λ r h. h ∙ c.in_ok-command-3.ensures.local ∙ c.in_ok-command-2.ensures.local ∙ c.in_ok-command.ensures.local
    ∙ c.bare_command-command.ensures.local) c.with_argument-2.ensures.local
