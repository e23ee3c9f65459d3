-- For the code that moves chunks, not part of what a reader believes: where the lines of old chunks stand now.
use Rattle.std.specs.Prelude.{◌≡◌, ℕ, ◌<◌, List, length, get_or, Option, Some}
use Rattle.cps_state.specs.declared.hashing.Hashing.{Hashing}
use Rattle.cps_state.specs.Course.{Trace}
use Rattle.cps_edit.specs.declared.exchange.Exchange.{Exchange}
use Rattle.cps_edit.specs.Exchange.{IsWithin, exchanged}
use Rattle.cps_edit.specs.Numbers.{exchanged_numbers}
use Rattle.cps_chunk.specs.declared.exchange.RecutChunk.{RecutChunk}
use Rattle.cps_chunk.specs.Code.Pieces.{ArePieces}
use Rattle.cps_chunk.specs.declared.chunk.Chunk.{Chunk}
use Rattle.cps_chunk.specs.Code.Chunk.{IsChunkOf, AreChunksOf, lengths_of}

-- The lines did this, and stand in the order that they have now that two runs of them have changed places. The old chunks are those of the order before, and
-- the pieces are the new division, which names each old chunk whose lines stand together again.
pub record AreMoved (hashing : Hashing) (olds : List Chunk) (pieces : List RecutChunk) (traces : List Trace) : Type 0 where
  pub before : List Trace
  pub exchange : Exchange
  pub within : IsWithin (length before) exchange
  pub chunks : AreChunksOf hashing olds before
  pub moved : traces ≡ exchanged exchange before
  pub named : ArePieces (lengths_of olds) pieces (exchanged_numbers (length before) exchange)

-- the old chunk of a number is one of lines that did this
pub record IsOldOf (hashing : Hashing) (olds : List Chunk) (traces : List Trace) (i : ℕ) : Type 0 where
  pub within : i < length olds
  pub chunk : (other : Chunk) → IsChunkOf hashing traces (get_or olds i other)

-- all chunks stay but the one that is named
pub record StayBut (named : Option ℕ) (olds news : List Chunk) : Type 0 where
  pub count : length news ≡ length olds
  pub others : (i : ℕ) (other : Chunk) → (named ≡ Some i → ⊥) → get_or news i other ≡ get_or olds i other
