use Rattle.std.proofs.Common.{◌≡◌, take}
use Rattle.cps_batch.specs.Code.Passes.{IsPassed}
use Rattle.cps_batch.proofs.passes.BatchPassOne.of.Given as goal

abbrev pub invariant-loop-before : goal.invariant-loop-before
invariant-loop-before l = record {
  passed : IsPassed (take l.before l.lines) l.one;
  part : l.one.part ≡ l.fn.part;
}
