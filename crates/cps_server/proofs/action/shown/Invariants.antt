use Rattle.std.proofs.Common.{All}
use Rattle.cps_server.specs.Actions.{IsShown}
use Rattle.cps_server.proofs.action.shown.Given as goal

abbrev pub invariant-loop-byte : goal.invariant-loop-byte
invariant-loop-byte l = All IsShown l.shown.items
