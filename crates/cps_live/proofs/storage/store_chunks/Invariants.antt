use Rattle.std.proofs.Common.{◌≡◌, ◌+◌, take}
use Rattle.std.specs.Prelude.{sum}
use Rattle.cps_chunk.specs.Code.Chunk.{AreChunksOf, lengths_of}
use Rattle.cps_chunk.specs.Code.Walk.{stretch}
use Rattle.cps_live.proofs.StoreLemmas.{StoresOn}
use Rattle.cps_live.proofs.storage.store_chunks.Given as goal

abbrev pub invariant-loop-chunk : goal.invariant-loop-chunk
invariant-loop-chunk l =
    let sizes = lengths_of l.fn.chunks in
    let end = l.fn.at + sum sizes in record {
      place : l.at ≡ l.fn.at + sum (take l.chunk-index sizes);
      stores : StoresOn l.initial.storage l.storage l.fn.base.traces.now l.fn.at l.at end l.fn.news l.left;
      chunks : AreChunksOf l.fn.base.hashing l.chunks (stretch l.fn.at end l.fn.base.traces.now);
      lengths : lengths_of l.chunks ≡ sizes;
    }
