use Rattle.std.proofs.Common.{◌≡◌, ◌+◌, ◌-◌, ◌*◌, ◌^◌, ◌≤◌, [], length, drop}
use Rattle.cps_claims.specs.Parts.{parts_from}
use Rattle.cps_claims.proofs.part.RowRest.behind_blanks.Given as goal

abbrev pub invariant-loop-at : goal.invariant-loop-at
invariant-loop-at l = record {
  parts : parts_from l.column [] (drop l.at l.self.bytes.now) ≡ parts_from l.self.column [] l.self.bytes.now;
  within : l.at ≤ length l.self.bytes.now;
  bounded : l.column + 8 * (length l.self.bytes.now - l.at) ≤ 2 ^ 67;
}

abbrev pub decreases-loop-at : goal.decreases-loop-at
decreases-loop-at l = length l.self.bytes.now - l.at
