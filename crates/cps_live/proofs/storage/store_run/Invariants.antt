use Rattle.std.proofs.Common.{◌≡◌, ℕ, ◌+◌, ◌≤◌, length, take}
use Rattle.std.specs.Prelude.{sum}
use Rattle.cps_chunk.specs.Code.Chunk.{AreChunksOf, lengths_of}
use Rattle.cps_chunk.specs.Code.Walk.{stretch}
use Rattle.cps_live.proofs.StoreLemmas.{StoresOn}
use Rattle.cps_live.proofs.storage.store_run.Given as goal

-- chunks up to a place were looked at, and lines up to another one stored: all of the run that these chunks have
abbrev pub invariant-loop-chunk : goal.invariant-loop-chunk
invariant-loop-chunk l =
    let sizes = lengths_of l.fn.chunks in
    let run = l.fn.run in record {
      place : l.at ≡ 0 + sum (take l.chunk-index sizes);
      begun : run.from ≤ l.done;
      most : l.done ≤ run.to;
      far : (k : ℕ) → k ≤ l.at → k ≤ run.to → k ≤ l.done;
      stores : StoresOn l.initial.storage l.storage l.fn.base.traces.now run.from l.done run.to run.news.now l.left;
      chunks : AreChunksOf l.fn.base.hashing l.chunks (stretch 0 (0 + sum sizes) l.fn.base.traces.now);
      lengths : lengths_of l.chunks ≡ sizes;
    }
