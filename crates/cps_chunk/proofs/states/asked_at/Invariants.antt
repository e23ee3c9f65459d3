use Rattle.std.proofs.Common.{◌≡◌}
use Rattle.cps_state.specs.Course.{last_ask}
use Rattle.cps_chunk.proofs.states.asked_at.Given as goal

-- the answer hangs on the asks that are left
abbrev pub invariant-loop-asked : goal.invariant-loop-asked
invariant-loop-asked l = last_ask l.asked-iterator.iter.rest.now l.key ≡ last_ask l.asks l.key
