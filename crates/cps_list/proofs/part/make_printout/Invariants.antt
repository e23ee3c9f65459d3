use Rattle.std.proofs.Common.{◌≡◌, ◌≤◌, take}
use Rattle.cps_list.specs.Code.Making.{IsPrintoutOf}
use Rattle.cps_list.proofs.part.make_printout.Given as goal

abbrev pub invariant-loop-before : goal.invariant-loop-before
invariant-loop-before g l = record {
  printout : IsPrintoutOf (take l.before (g.V.View.assembly l.view).lines) (take l.before (g.V.View.assembly l.view).outcomes) l.printout;
  part : l.printout.part ≡ l.fn.part;
  few : l.printout.flagged ≤ l.before;
}
