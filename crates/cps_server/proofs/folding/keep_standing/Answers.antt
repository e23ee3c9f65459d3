use Rattle.std.proofs.Common.{[], subst}
use Rattle.std.proofs.lemmas.List.{append-nil}
use Rattle.cps_server.specs.Foldings.{AreFoldings}
use Rattle.cps_server.proofs.folding.keep_standing.Goals as goal

pub returns : goal.returns
returns c = subst (AreFoldings c.args.count 0) (append-nil c.loop-folding.kept.items) (c.loop-folding.invariant [] tt)
