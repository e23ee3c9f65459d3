use Rattle.std.proofs.Common.{◌≡◌, take}
use Rattle.cps_chunk.specs.Code.Chunk.{lengths_of}
use Rattle.cps_live.proofs.kept_source.KeptSource.lengths.Given as goal

abbrev pub invariant-loop-chunk : goal.invariant-loop-chunk
invariant-loop-chunk l = l.lengths.items ≡ take l.chunk-index (lengths_of l.self.chunks.items)
