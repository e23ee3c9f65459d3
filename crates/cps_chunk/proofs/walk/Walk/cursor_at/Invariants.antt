use Rattle.std.proofs.Common.{◌≡◌, ◌≤◌, take}
use Rattle.std.specs.Prelude.{sum}
use Rattle.cps_chunk.specs.Code.Chunk.{lengths_of}
use Rattle.cps_chunk.proofs.walk.Walk.cursor_at.Given as goal

abbrev pub invariant-loop-chunk : goal.invariant-loop-chunk
invariant-loop-chunk l = record {
  line : l.line ≡ sum (take l.chunk (lengths_of l.self.chunks.items));
  begins : l.line ≤ l.at;
}
