use Rattle.std.proofs.Common.{◌≡◌, ◌≤◌, ◌+◌}
use Rattle.cps_batch.specs.Code.Passes.{ShowsTo}
use Rattle.cps_batch.proofs.passes.PassTwo.add_group.Given as goal

abbrev pub invariant-loop-at : goal.invariant-loop-at
invariant-loop-at l = record {
  shown : ShowsTo l.lines l.shown (l.shown + l.at) l.fn.self l.self;
  finals : l.self.finals.now ≡ l.fn.self.finals.now;
  part : l.self.printout.part ≡ l.fn.self.printout.part;
  few : l.self.printout.flagged ≤ l.shown + l.at;
}
