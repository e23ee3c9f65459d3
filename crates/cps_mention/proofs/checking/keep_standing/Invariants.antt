use Rattle.std.proofs.Common.{All}
use Rattle.cps_mention.specs.Mentions.{Stands}
use Rattle.cps_mention.proofs.checking.keep_standing.Given as goal

abbrev pub invariant-loop-mention : goal.invariant-loop-mention
invariant-loop-mention g l = All (Stands (g.V.View.assembly l.view).lines) l.mentions.items
