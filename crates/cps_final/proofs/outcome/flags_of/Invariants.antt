use Rattle.std.proofs.Common.{◌≡◌, take}
use Rattle.cps_final.specs.Outcome.{flags_of}
use Rattle.cps_final.proofs.outcome.flags_of.Given as goal

abbrev pub invariant-loop-row : goal.invariant-loop-row
invariant-loop-row l = l.flags ≡ flags_of (take l.row-index l.rows)
