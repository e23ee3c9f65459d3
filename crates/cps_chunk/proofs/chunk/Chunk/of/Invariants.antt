use Rattle.std.proofs.Common.{take}
use Rattle.cps_chunk.specs.Code.Chunk.{IsChunkOf}
use Rattle.cps_chunk.proofs.chunk.Chunk.of.Given as goal

abbrev pub invariant-loop-trace : goal.invariant-loop-trace
invariant-loop-trace l = IsChunkOf l.hashing (take l.trace-index l.traces) l.chunk
