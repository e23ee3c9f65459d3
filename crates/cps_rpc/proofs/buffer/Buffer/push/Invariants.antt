use Rattle.std.proofs.Common.{◌≡◌, ◌++◌, length}
use Rattle.cps_rpc.proofs.buffer.Buffer.push.Given as goal

abbrev pub invariant-loop-at : goal.invariant-loop-at
invariant-loop-at l = l.self ++ l.rest ≡ l.fn.self ++ l.text

abbrev pub decreases-loop-at : goal.decreases-loop-at
decreases-loop-at l = length l.rest
