use Rattle.std.proofs.Common.{ap₂, ◌∙◌}
use Rattle.std.proofs.lemmas.Result.{IfOk-weaker}
use Rattle.clap.specs.Words.{with_subcommand}
use Rattle.cps_words.proofs.command_line.compass_command.Goals as goal

pub returns : goal.returns
returns c =
    let with_batch = c.in_ok-command.ensures ∙ ap₂ with_subcommand c.top_command.ensures c.in_ok-batch_command.ensures.shape in
    let with_session = c.in_ok-command-2.ensures ∙ ap₂ with_subcommand with_batch c.in_ok-session_command.ensures.shape in
    let with_check = c.in_ok-command-3.ensures ∙ ap₂ with_subcommand with_session c.in_ok-check_command.ensures.shape in
    let with_compare = c.in_ok-command-4.ensures ∙ ap₂ with_subcommand with_check c.in_ok-compare_command.ensures.shape in
    let with_disassemble = c.in_ok-command-5.ensures ∙ ap₂ with_subcommand with_compare c.in_ok-disassemble_command.ensures.shape in
    let with_explain = c.in_ok-command-6.ensures ∙ ap₂ with_subcommand with_disassemble c.in_ok-explain_command.ensures.shape in
    let with_server = c.in_ok-command-7.ensures ∙ ap₂ with_subcommand with_explain c.in_ok-server_command.ensures.shape in
    IfOk-weaker c.with_command-8.result _ _ (λ r h. h ∙ ap₂ with_subcommand with_server c.in_ok-help_command.ensures.shape) c.with_command-8.ensures
