use Rattle.std.proofs.Common.{◌≡◌, ◌≤◌, ◌-◌, length}
use Rattle.cps_state.specs.Work.{counted_on}
use Rattle.cps_chunk.specs.declared.walk.Destination.TheVariants.{Behind}
use Rattle.cps_chunk.specs.Code.Along.{GoesAlong, replayed_along, span}
use Rattle.cps_chunk.proofs.walk.Walk.carry_lines.Given as goal

-- the lines so far were gone along
abbrev pub invariant-loop-at : goal.invariant-loop-at
invariant-loop-at l = record {
  along : GoesAlong l.fn.self l.self (Behind l.place) (span l.fn.lines.from l.at);
  base : l.self.base ≡ l.fn.self.base;
  chunks : l.self.chunks ≡ l.fn.self.chunks;
  ones : l.work.ones ≡ counted_on l.fn.work.ones (length (replayed_along l.fn.self (Behind l.place) (span l.fn.lines.from l.at)));
  ones_least : l.fn.work.ones ≤ l.work.ones;
  twos : l.work.twos ≡ l.fn.work.twos;
  looked : l.work.looked ≤ counted_on l.fn.work.looked (l.at - l.fn.lines.from);
  looked_least : l.fn.work.looked ≤ l.work.looked;
}
