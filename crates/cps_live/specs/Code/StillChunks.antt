-- For the code that goes over the chunks of a source, not part of what a reader believes: chunks of lines that were there, whatever was gathered of them.
use Rattle.std.specs.Prelude.{◌≡◌, ℕ, ◌+◌, ◌^◌, ◌<◌, ◌≤◌, List, length, take, sum}
use Rattle.cps_state.specs.Course.{Trace}
use Rattle.cps_chunk.specs.Code.Chunk.{AreChunksOf, IsChunkOf, lengths_of}
use Rattle.cps_chunk.specs.declared.chunk.Chunk.{Chunk}
use Rattle.cps_chunk.specs.declared.put.ChunkSplice.{ChunkSplice}
use Rattle.cps_chunk.specs.declared.sparse.SparseItem.{SparseItem}
use Rattle.cps_chunk.specs.declared.walk.Baseline.{Baseline}
use Rattle.cps_chunk.specs.Sparse.{AreWithin, renewed}
use Rattle.cps_chunk.specs.Code.Walk.{stretch}
use Rattle.cps_live.specs.declared.storage.RenewedRun.{RenewedRun}

-- chunks of lines that were there, the first of them with so many in front of it
pub record StandFrom (base : Baseline) (at : ℕ) (olds : List Chunk) : Type 0 where
  pub room : at + sum (lengths_of olds) < 2 ^ 64
  pub within : at + sum (lengths_of olds) ≤ length base.traces.now
  pub chunks : AreChunksOf base.hashing olds (stretch at (at + sum (lengths_of olds)) base.traces.now)

-- a chunk has the lines that it had, whatever was gathered of them
pub record IsStillChunk (base : Baseline) (at : ℕ) (old new : Chunk) : Type 0 where
  pub chunk : IsChunkOf base.hashing (stretch at (at + old.lines) base.traces.now) new
  pub lines : new.lines ≡ old.lines

pub record AreStillChunks (base : Baseline) (at : ℕ) (olds news : List Chunk) : Type 0 where
  pub chunks : AreChunksOf base.hashing news (stretch at (at + sum (lengths_of olds)) base.traces.now)
  pub lengths : lengths_of news ≡ lengths_of olds

-- chunks of all lines
pub record AreAllChunks (base : Baseline) (olds : List Chunk) : Type 0 where
  pub few : length base.traces.now < 2 ^ 64
  pub chunks : AreChunksOf base.hashing olds base.traces.now

-- chunks of all lines, of which some go, with lines in front of the edit and behind it
pub record CutsAround (base : Baseline) (cut : ChunkSplice) (olds : List Chunk) : Type 0 where
  pub chunks : AreChunksOf base.hashing olds base.traces.now
  pub ordered : cut.start ≤ cut.end
  pub within : cut.end ≤ length olds
  pub before : cut.before ≡ sum (take cut.start (lengths_of olds))
  pub behind : cut.behind ≡ sum (take cut.end (lengths_of olds))
  pub begins : cut.before ≤ cut.keep
  pub order : cut.keep ≤ cut.from
  pub ends : cut.from ≤ cut.behind
  pub few : length base.traces.now < 2 ^ 64

-- what so many lines from a place on do, of which these do something new
abbrev pub renewed_in : Baseline → ℕ → ℕ → List (SparseItem Trace) → List Trace
renewed_in base at count news = renewed at news (stretch at (at + count) base.traces.now)

-- lines of a source of so many, of which these do something new
pub record IsRunOf (count : ℕ) (run : RenewedRun) : Type 0 where
  pub ordered : run.from ≤ run.to
  pub within : run.to ≤ count
  pub news : AreWithin run.from run.to run.news.now

-- what they do
abbrev pub done_in : Baseline → RenewedRun → List Trace
done_in base run = renewed run.from run.news.now (stretch run.from run.to base.traces.now)
