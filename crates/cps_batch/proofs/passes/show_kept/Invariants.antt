use Rattle.std.proofs.Common.{◌≡◌, ◌≤◌, length, take, drop, reverse}
use Rattle.cps_edit.specs.Assembly.{traces_of}
use Rattle.cps_batch.specs.Code.KeptLines.{statements_in}
use Rattle.cps_batch.specs.Code.Passes.{IsShown, statements_of}
use Rattle.cps_batch.proofs.passes.show_kept.Given as goal

abbrev pub invariant-loop-group : goal.invariant-loop-group
invariant-loop-group l = record {
  left : drop l.shown (statements_of (traces_of l.lines)) ≡ statements_in (reverse l.left.items);
  within : l.shown ≤ length l.lines;
  shown : IsShown (take l.shown l.lines) l.two;
  finals : l.two.finals.now ≡ l.fn.finals;
  part : l.two.printout.part ≡ l.fn.part;
  few : l.two.printout.flagged ≤ l.shown;
}

abbrev pub decreases-loop-group : goal.decreases-loop-group
decreases-loop-group l = length l.left.items
