use Rattle.std.proofs.Common.{take}
use Rattle.cps_state.specs.Keys.{State, overwritten}
use Rattle.cps_cause.specs.Code.OpenNow.{IsOpenNow}
use Rattle.cps_cause.proofs.open_now.OpenNow.behind.Given as goal

abbrev pub invariant-loop-put : goal.invariant-loop-put
invariant-loop-put l = (state : State) → IsOpenNow state l.fn.self → IsOpenNow (overwritten state (take l.put-index l.puts)) l.opened
