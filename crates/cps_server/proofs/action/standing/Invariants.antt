use Rattle.std.proofs.Common.{All}
use Rattle.cps_server.specs.Actions.{IsAction}
use Rattle.cps_server.proofs.action.standing.Given as goal

abbrev pub invariant-loop-action : goal.invariant-loop-action
invariant-loop-action l = All (IsAction l.document) l.actions.items
