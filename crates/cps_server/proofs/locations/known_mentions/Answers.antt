use Rattle.std.proofs.Common.{subst}
use Rattle.std.specs.Prelude.{IfSome}
use Rattle.cps_edit.specs.Assembly.{assembly_of}
use Rattle.cps_mention.specs.Agreement.{AreMentions}
use Rattle.cps_server.proofs.locations.known_mentions.Goals as goal

pub returns : goal.returns
returns c =
    subst (λ lines. IfSome c.in_ok-mentions.mentions (λ mentions. AreMentions (assembly_of lines) mentions.items)) c.session-session.ensures c.in_ok-mentions.ensures
