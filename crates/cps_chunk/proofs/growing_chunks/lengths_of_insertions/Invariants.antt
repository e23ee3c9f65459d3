use Rattle.std.proofs.Common.{◌≡◌, ◌+◌, ◌-◌, ◌≤◌}
use Rattle.cps_chunk.specs.Put.{inserted_each}
use Rattle.cps_chunk.specs.Code.GrowingChunks.{IsFilling, filled}
use Rattle.cps_chunk.proofs.growing_chunks.lengths_of_insertions.Given as goal

abbrev pub invariant-loop : goal.invariant-loop
invariant-loop l = record {
  filling : IsFilling l.filling;
  at : l.filling.at ≤ l.fn.after + l.counter;
  all : filled (l.fn.count - l.counter) l.filling ≡ inserted_each l.fn.after l.fn.count l.fn.lengths;
}
