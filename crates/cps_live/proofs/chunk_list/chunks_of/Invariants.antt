use Rattle.std.proofs.Common.{◌≡◌, take, drop, vec_capacity}
use Rattle.std.specs.Prelude.{sum}
use Rattle.cps_chunk.specs.Code.Chunk.{AreChunksOf, lengths_of}
use Rattle.cps_live.proofs.chunk_list.chunks_of.Given as goal

abbrev pub invariant-loop-lines : goal.invariant-loop-lines
invariant-loop-lines l = record {
  chunks : AreChunksOf l.hashing l.chunks.items (take (sum (take l.lines-index l.lengths)) l.traces);
  lengths : lengths_of l.chunks.items ≡ take l.lines-index l.lengths;
  left : l.left ≡ drop (sum (take l.lines-index l.lengths)) l.traces;
  room : vec_capacity l.chunks ≡ vec_capacity l.fn.room;
}
