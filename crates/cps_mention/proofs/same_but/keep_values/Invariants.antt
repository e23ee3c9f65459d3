use Rattle.std.proofs.Common.{All, take}
use Rattle.cps_mention.specs.SameBut.{KeepsValue}
use Rattle.cps_mention.proofs.same_but.keep_values.Given as goal

abbrev pub invariant-loop-mention : goal.invariant-loop-mention
invariant-loop-mention g l = All (KeepsValue l.calling (g.V.View.assembly l.before) (g.W.View.assembly l.after)) (take l.mention-index l.mentions)
