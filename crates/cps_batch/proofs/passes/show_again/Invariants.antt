use Rattle.std.proofs.Common.{◌≡◌, ◌≤◌, take}
use Rattle.cps_final.specs.Finals.{Gathers}
use Rattle.cps_final.specs.contracts.finals.FinalsGathered.TheImpl.{gathered-value}
use Rattle.cps_edit.specs.Assembly.{traces_of}
use Rattle.cps_batch.specs.Code.Passes.{IsShown}
use Rattle.cps_batch.proofs.passes.show_again.Given as goal

abbrev pub invariant-loop-before : goal.invariant-loop-before
invariant-loop-before l = record {
  gathered : Gathers (gathered-value.it l.again.gather) (traces_of (take l.before l.lines));
  shown : IsShown (take l.before l.lines) l.again.two;
  finals : l.again.two.finals.now ≡ l.fn.finals;
  part : l.again.two.printout.part ≡ l.fn.part;
  few : l.again.two.printout.flagged ≤ l.before;
}
