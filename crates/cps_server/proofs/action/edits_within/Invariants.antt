use Rattle.std.proofs.Common.{All}
use Rattle.cps_server.specs.Actions.{IsEdit}
use Rattle.cps_server.proofs.action.edits_within.Given as goal

abbrev pub invariant-loop-edit : goal.invariant-loop-edit
invariant-loop-edit l = All (IsEdit l.document) l.within.items
