use Rattle.std.proofs.Common.{◌≡◌, length}
use Rattle.cps_chunk.specs.Code.StateBefore.{sought}
use Rattle.cps_chunk.proofs.state_before.StateBefore.seek.Given as goal

abbrev pub invariant-loop-chunk : goal.invariant-loop-chunk
invariant-loop-chunk l = sought l.self.hashing l.chunks l.front l.key ≡ sought l.fn.self.hashing l.fn.self.chunks.now l.fn.self.front.now l.key

abbrev pub decreases-loop-chunk : goal.decreases-loop-chunk
decreases-loop-chunk l = length l.chunks
