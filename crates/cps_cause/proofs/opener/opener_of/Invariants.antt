use Rattle.std.proofs.Common.{length, take}
use Rattle.cps_state.specs.Keys.{first_state, overwritten}
use Rattle.cps_final.specs.Layout.{puts_of}
use Rattle.cps_cause.specs.Opener.{open_behind}
use Rattle.cps_cause.specs.Code.OpenNow.{IsLast, IsOpenNow}
use Rattle.cps_cause.proofs.opener.opener_of.Given as goal

abbrev pub invariant-loop-above : goal.invariant-loop-above
invariant-loop-above l =
    IsOpenNow (overwritten first_state (puts_of (take l.above l.traces))) l.opened
    × IsLast l.traces (open_behind l.traces (length l.traces)) l.above l.opener
