use Rattle.std.proofs.Common.{ap, ◌∙◌}
use Rattle.cps_edit.specs.Assembly.{assembly_of}
use Rattle.cps_list.specs.Symbols.{mentions_from}
use Rattle.cps_server.proofs.mentions.mentions_in.Goals as goal

pub returns : goal.returns
returns c = c.in_ok-mentions.ensures ∙ ap (λ lines. mentions_from 1 (assembly_of lines).outcomes) c.session.ensures
