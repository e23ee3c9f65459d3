use Rattle.std.proofs.Common.{ap, ap₂, ◌∙◌}
use Rattle.std.proofs.lemmas.Result.{IfOk-weaker}
use Rattle.clap.specs.Words.{App, with_rule}
use Rattle.cps_words.proofs.command_line.check_command.Goals as goal

pub returns-clause-shape : goal.returns-clause-shape
returns-clause-shape c =
    let with_errors = c.in_ok-command.ensures.app ∙ ap₂ with_rule c.bare_command-command.ensures.app c.flag.ensures.rule in
    IfOk-weaker c.with_argument-2.result _ _ (λ r h. ap (λ (a : App). a.top) (h ∙ ap₂ with_rule with_errors c.operand.ensures.rule))
    c.with_argument-2.ensures.app

pub returns-clause-local : goal.returns-clause-local
returns-clause-local c =
    IfOk-weaker c.with_argument-2.result _ _ (λ r h. h ∙ c.in_ok-command.ensures.local ∙ c.bare_command-command.ensures.local) c.with_argument-2.ensures.local
