use Rattle.std.proofs.Common.{◌≡◌, take}
use Rattle.cps_state.specs.Work.{counted_on}
use Rattle.cps_final.specs.Finals.{Gathers}
use Rattle.cps_final.specs.contracts.finals.FinalsGathered.TheImpl.{gathered-value}
use Rattle.cps_edit.specs.Passes.{traces_of}
use Rattle.cps_edit.proofs.pass_one.step_all.Given as goal

abbrev pub invariant-loop-line : goal.invariant-loop-line
invariant-loop-line l = record {
  traces : l.traces.items ≡ traces_of (take l.line-index l.lines);
  gathered : Gathers (gathered-value.it l.gather) (traces_of (take l.line-index l.lines));
  ones : l.work.ones ≡ counted_on l.fn.work.ones l.line-index;
  twos : l.work.twos ≡ l.fn.work.twos;
  looked : l.work.looked ≡ l.fn.work.looked;
}
