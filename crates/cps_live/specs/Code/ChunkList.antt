-- For the code that keeps chunks, not part of what a reader believes: the chunks of an edited source.
use Rattle.std.specs.Prelude.{◌≡◌, ℕ, ◌+◌, ◌-◌, ◌≤◌, List, length, sum, take, drop, vec_len, vec_capacity}
use Rattle.std.specs.declared.vec.Vec.{Vec}
use Rattle.cps_state.specs.declared.hashing.Hashing.{Hashing}
use Rattle.cps_state.specs.Course.{Trace}
use Rattle.cps_chunk.specs.Recut.{recut}
use Rattle.cps_chunk.specs.Staying.{IsTight}
use Rattle.cps_chunk.specs.Code.Chunk.{AreChunksOf, lengths_of}
use Rattle.cps_chunk.specs.declared.chunk.Chunk.{Chunk}
use Rattle.cps_chunk.specs.declared.put.ChunkSplice.{ChunkSplice}

-- chunks of the lengths `ns` come in the place of those from `start` up to `end`, around lines from `keep` up to `from`
pub record IsDivided (keep from start end : ℕ) (ns olds news : List ℕ) : Type 0 where
  pub chunks : recut start end ns olds ≡ news
  pub ordered : start ≤ end
  pub within : end ≤ length olds
  pub begins : sum (take start olds) ≤ keep
  pub ends : from ≤ sum (take end olds)
  pub tight : IsTight keep (sum olds - from) start end ns olds

-- lines that did one thing in these chunks, and do another in those of the edit: the same in front of the chunks that go, and behind them
pub record Fits (hashing : Hashing) (cut : ChunkSplice) (cs : List Chunk) (olds news : List Trace) : Type 0 where
  pub chunks : AreChunksOf hashing cs olds
  pub ordered : cut.start ≤ cut.end
  pub within : cut.end ≤ length cs
  pub before : cut.before ≡ sum (take cut.start (lengths_of cs))
  pub behind : cut.behind ≡ sum (take cut.end (lengths_of cs))
  pub front : take cut.before news ≡ take cut.before olds
  pub back : drop (cut.before + sum cut.lengths.items) news ≡ drop cut.behind olds
  pub count : cut.before + sum cut.lengths.items + (length olds - cut.behind) ≡ length news

-- there is room for the chunks of the edit, and a list for them
pub record HasRoom {Z : Type 0} (cut : ChunkSplice) (cs : Vec Chunk Z) (news : List Trace) (room : Vec Chunk Z) : Type 0 where
  pub chunks : vec_len cs + length cut.lengths.items ≤ vec_capacity cs + (cut.end - cut.start)
  pub list : length cut.lengths.items ≤ vec_capacity room
