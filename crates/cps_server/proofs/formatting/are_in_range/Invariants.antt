use Rattle.std.proofs.Common.{All, take}
use Rattle.cps_server.specs.Code.Spacing.{StandsIn}
use Rattle.cps_server.proofs.formatting.are_in_range.Given as goal

abbrev pub invariant-loop-edit : goal.invariant-loop-edit
invariant-loop-edit l = All (StandsIn l.range) (take l.edit-index l.edits)
