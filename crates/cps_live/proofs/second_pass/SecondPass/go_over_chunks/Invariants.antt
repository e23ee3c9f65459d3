use Rattle.std.proofs.Common.{◌≡◌, ◌+◌, length, take, drop}
use Rattle.std.specs.Prelude.{sum}
use Rattle.cps_chunk.specs.Code.Chunk.{AreChunksOf, lengths_of}
use Rattle.cps_chunk.specs.Code.Walk.{stretch}
use Rattle.cps_live.specs.Code.SecondPass.{redone_in, looks_in}
use Rattle.cps_live.proofs.CountLemmas.{StillCounts}
use Rattle.cps_live.proofs.SecondPassLemmas.{GoesOn}
use Rattle.cps_live.proofs.second_pass.SecondPass.go_over_chunks.Given as goal

abbrev pub invariant-loop-chunk : goal.invariant-loop-chunk
invariant-loop-chunk l =
    let sizes = lengths_of l.fn.chunks in
    let end = l.fn.at + sum sizes in record {
      place : l.at ≡ l.fn.at + sum (take l.chunk-index sizes);
      over : GoesOn l.fn.self l.self l.fn.at l.at end l.news l.left;
      chunks : AreChunksOf l.fn.self.base.hashing l.chunks (stretch l.fn.at end l.fn.self.base.traces.now);
      lengths : lengths_of l.chunks ≡ sizes;
      counts : StillCounts l.fn.work l.work (length (redone_in l.fn.self l.at end l.left)) (length (redone_in l.fn.self l.fn.at end l.news))
          (looks_in l.fn.self (drop l.chunk-index sizes) l.at l.left) (looks_in l.fn.self sizes l.fn.at l.news);
    }
