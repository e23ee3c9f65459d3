use Rattle.std.proofs.Common.{◌≡◌, ◌++◌, drop}
use Rattle.cps_state.specs.Work.{counted_on}
use Rattle.cps_final.specs.Resolving.{resolved}
use Rattle.cps_edit.specs.Passes.{outcomes_by}
use Rattle.cps_edit.proofs.pass_two.step_two_all.Given as goal

abbrev pub invariant-loop-trace : goal.invariant-loop-trace
invariant-loop-trace l = record {
  outcomes : l.all.items ++ outcomes_by (resolved l.finals) (drop l.trace-index l.traces) ≡ outcomes_by (resolved l.finals) l.traces;
  twos : l.work.twos ≡ counted_on l.fn.work.twos l.trace-index;
  ones : l.work.ones ≡ l.fn.work.ones;
  looked : l.work.looked ≡ l.fn.work.looked;
}
