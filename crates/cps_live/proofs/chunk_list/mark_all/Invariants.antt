use Rattle.std.proofs.Common.{◌≡◌, ◌≤◌, ◌-◌, List, take, drop, vec_len, vec_capacity}
use Rattle.std.specs.Prelude.{sum}
use Rattle.cps_state.specs.Course.{Trace}
use Rattle.cps_chunk.specs.Code.Chunk.{AreChunksOf, lengths_of}
use Rattle.cps_chunk.specs.Sparse.{AreWithin, renewed}
use Rattle.cps_live.proofs.chunk_list.mark_all.Given as goal

abbrev pub invariant-loop-new : goal.invariant-loop-new
invariant-loop-new l = record {
  line : l.line ≡ sum (take l.chunk (lengths_of l.fn.chunks.items));
  left : AreWithin l.line (sum (lengths_of l.fn.chunks.items)) (drop l.new-index l.news);
  chunks : (ts : List Trace) → AreChunksOf l.hashing l.fn.chunks.items ts → AreChunksOf l.hashing l.chunks.items (renewed 0 (take l.new-index l.news) ts);
  lengths : lengths_of l.chunks.items ≡ lengths_of l.fn.chunks.items;
  room : vec_capacity l.chunks ≡ vec_capacity l.fn.chunks;
}

-- up to the chunk of a line
abbrev pub invariant-loop-chunk : goal.invariant-loop-chunk
invariant-loop-chunk l = record {
  line : l.line ≡ sum (take l.chunk (lengths_of l.fn.chunks.items));
  before : l.line ≤ l.new.at;
}

abbrev pub decreases-loop-chunk : goal.decreases-loop-chunk
decreases-loop-chunk l = vec_len l.chunks - l.chunk
