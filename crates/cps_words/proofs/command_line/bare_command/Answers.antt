use Rattle.std.proofs.Common.{ap, ◌∙◌}
use Rattle.clap.specs.Simple.{app_of_fields}
use Rattle.cps_words.proofs.command_line.bare_command.Goals as goal

-- names of steps to be taken from the check's note
pub returns-clause-app : goal.returns-clause-app
returns-clause-app c = ap app_of_fields c.after_help.ensures ∙ ap app_of_fields c.about.ensures ∙ c.new.ensures.app
