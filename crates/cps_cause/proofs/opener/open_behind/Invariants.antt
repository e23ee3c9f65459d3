use Rattle.std.proofs.Common.{take}
use Rattle.cps_state.specs.Keys.{first_state, overwritten}
use Rattle.cps_final.specs.Layout.{puts_of}
use Rattle.cps_cause.specs.Code.OpenNow.{IsOpenNow}
use Rattle.cps_cause.proofs.opener.open_behind.Given as goal

abbrev pub invariant-loop-trace : goal.invariant-loop-trace
invariant-loop-trace l = IsOpenNow (overwritten first_state (puts_of (take l.trace-index l.traces))) l.opened
