use Rattle.std.proofs.Common.{◌≡◌, length}
use Rattle.cps_server.specs.Rows.{hint_of}
use Rattle.cps_server.proofs.hint.hint_of.Given as goal

-- no row so far has an address or a code
abbrev pub invariant-loop-left : goal.invariant-loop-left
invariant-loop-left l = hint_of l.left ≡ hint_of l.rows

abbrev pub decreases-loop-left : goal.decreases-loop-left
decreases-loop-left l = length l.left
