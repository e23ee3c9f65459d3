use Rattle.std.proofs.Common.{ap, ap₂, fold, ◌∙◌}
use Rattle.std.proofs.lemmas.Result.{IfOk-weaker}
use Rattle.clap.specs.Words.{App, with_rule}
use Rattle.cps_words.specs.Commands.{name_rules, place_rules, selection_rules}
use Rattle.cps_words.proofs.command_line.disassemble_command.Goals as goal

pub returns-clause-shape : goal.returns-clause-shape
returns-clause-shape c =
    let with_central = c.in_ok-command.ensures.app ∙ ap₂ with_rule c.bare_command-command.ensures.app c.flag.ensures.rule in
    let with_peripheral = c.in_ok-command-2.ensures.app ∙ ap₂ with_rule with_central c.flag-2.ensures.rule in
    let with_selection = c.in_ok-command-3.ensures.app ∙ ap (λ a. fold with_rule a selection_rules) with_peripheral in
    let with_places = c.in_ok-command-4.ensures.app ∙ ap (λ a. fold with_rule a place_rules) with_selection in
    let with_names = c.in_ok-command-5.ensures.app ∙ ap (λ a. fold with_rule a name_rules) with_places in
    IfOk-weaker c.with_argument-3.result _ _ (λ r h. ap (λ (a : App). a.top) (h ∙ ap₂ with_rule with_names c.operand.ensures.rule))
    c.with_argument-3.ensures.app

pub returns-clause-local : goal.returns-clause-local
returns-clause-local c =
    IfOk-weaker c.with_argument-3.result _ _ (λ r h. h ∙ c.in_ok-command-5.ensures.local ∙ c.in_ok-command-4.ensures.local ∙ c.in_ok-command-3.ensures.local ∙ c.in_ok-command-2.ensures.local ∙ c.in_ok-command.ensures.local
    ∙ c.bare_command-command.ensures.local) c.with_argument-3.ensures.local
