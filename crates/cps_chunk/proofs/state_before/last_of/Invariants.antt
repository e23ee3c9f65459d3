use Rattle.std.proofs.Common.{◌≡◌}
use Rattle.cps_state.specs.Course.{last_put}
use Rattle.cps_chunk.proofs.state_before.last_of.Given as goal

abbrev pub invariant-loop-put : goal.invariant-loop-put
invariant-loop-put l = last_put l.put-iterator.iter.rest.now l.key ≡ last_put l.puts l.key
