use Rattle.std.proofs.Common.{◌≡◌, take}
use Rattle.cps_state.specs.Keys.{State, overwritten}
use Rattle.cps_server.specs.MachineAbove.{machine_in}
use Rattle.cps_server.proofs.machine_above.behind.Given as goal

abbrev pub invariant-loop-put : goal.invariant-loop-put
invariant-loop-put l = (state : State) → l.fn.machine ≡ machine_in state → l.machine ≡ machine_in (overwritten state (take l.put-index l.puts))
