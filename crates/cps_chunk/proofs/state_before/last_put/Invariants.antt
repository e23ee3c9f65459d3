use Rattle.std.proofs.Common.{◌≡◌}
use Rattle.cps_state.specs.Course.{last_put}
use Rattle.cps_final.specs.Layout.{puts_of}
use Rattle.cps_chunk.proofs.state_before.last_put.Given as goal

abbrev pub invariant-loop-trace : goal.invariant-loop-trace
invariant-loop-trace l = last_put (puts_of l.trace-iterator.iter.rest.now) l.key ≡ last_put (puts_of l.traces) l.key
