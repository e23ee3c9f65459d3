use Rattle.std.proofs.Common.{◌≡◌, take, drop, vec_capacity}
use Rattle.cps_chunk.specs.Code.Pieces.{lines_of}
use Rattle.cps_chunk.specs.Code.Chunk.{lengths_of}
use Rattle.cps_chunk.proofs.MovedChunkLemmas.{AreThere, StandBefore}
use Rattle.cps_chunk.proofs.moved.chunks_moved.Given as goal

abbrev pub invariant-loop-piece : goal.invariant-loop-piece
invariant-loop-piece l = record {
  before : StandBefore l.hashing l.chunks.items l.left l.traces;
  there : AreThere l.hashing l.olds.items (drop l.piece-index l.pieces) l.left;
  lengths : lengths_of l.chunks.items ≡ lines_of (take l.piece-index l.pieces);
  room : vec_capacity l.chunks ≡ vec_capacity l.fn.room;
}
