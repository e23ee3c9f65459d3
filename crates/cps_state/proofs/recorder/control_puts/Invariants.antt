use Rattle.std.proofs.Common.{◌≡◌, take}
use Rattle.cps_state.specs.Course.{control_puts}
use Rattle.cps_state.proofs.recorder.control_puts.Given as goal

abbrev pub invariant-loop-put : goal.invariant-loop-put
invariant-loop-put l = l.kept.items ≡ control_puts (take l.put-index l.puts)
