use Rattle.std.proofs.Common.{◌≡◌, ◌+◌, ◌-◌, ◌≤◌, ◌++◌, List, ℕ, length, take, drop, reverse}
use Rattle.std.specs.Prelude.{sum}
use Rattle.cps_edit.specs.Numbers.{numbers}
use Rattle.cps_chunk.specs.Exchange.{part_of, rejoined}
use Rattle.cps_chunk.specs.Code.Pieces.{lines_in, ArePieces, GoesNotOn}
use Rattle.cps_chunk.proofs.exchange.set_run_before.Given as goal

abbrev pub invariant-loop-chunk : goal.invariant-loop-chunk
invariant-loop-chunk l = record {
  start : l.start ≡ sum (take l.chunk l.lengths);
  within : l.chunk ≤ length l.lengths;
  lines : lines_in l.pieces.items ≡ rejoined (part_of (l.from - l.start) (l.to - l.start) (drop l.chunk l.lengths)) (lines_in l.fn.pieces.items);
  pieces : (more : List ℕ) → GoesNotOn l.to more → ArePieces l.lengths (reverse l.fn.pieces.items) more
      → ArePieces l.lengths (reverse l.pieces.items) (numbers (l.start + (l.from - l.start)) (l.to - (l.start + (l.from - l.start))) ++ more);
}
