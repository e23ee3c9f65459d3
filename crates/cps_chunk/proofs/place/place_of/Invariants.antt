use Rattle.std.proofs.Common.{◌≡◌, ◌+◌, ◌-◌, ◌≤◌, take, drop}
use Rattle.std.specs.Prelude.{sum}
use Rattle.cps_chunk.specs.Division.{chunk_of}
use Rattle.cps_chunk.proofs.place.place_of.Given as goal

abbrev pub invariant-loop-chunk : goal.invariant-loop-chunk
invariant-loop-chunk l = record {
  chunk : l.chunk + chunk_of (l.line - l.before) (drop l.chunk l.lengths) ≡ chunk_of l.line l.lengths;
  before : l.before ≡ sum (take l.chunk l.lengths);
  above : l.before ≤ l.line - 1;
}
