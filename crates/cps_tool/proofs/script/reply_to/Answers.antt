use Rattle.std.proofs.Common.{◌<◌, length, refl, inr}
use Rattle.cps_input.specs.Lines.{without_return}
use Rattle.cps_tool.proofs.CommandLemmas.{no_command, is_quit-long}
use Rattle.cps_tool.proofs.script.reply_to.Goals as goal

pub returns-in-None : goal.returns-in-None
returns-in-None c = λ begun is. let long : 200 < length (without_return begun) = c.in-None.ensures begun is in (is_quit-long _ long, inr (no_command _ long, refl, refl))

pub returns-in-Some : goal.returns-in-Some
returns-in-Some c = λ begun is. rw (← c.in-Some.ensures begun is) c.obey.ensures
