use Rattle.std.proofs.Common.{◌≡◌, take}
use Rattle.cps_server.specs.MachineAbove as machines
use Rattle.cps_server.proofs.machine_above.machine_behind.Given as goal

abbrev pub invariant-loop-trace : goal.invariant-loop-trace
invariant-loop-trace l = l.machine ≡ machines.machine_behind (take l.trace-index l.traces)
