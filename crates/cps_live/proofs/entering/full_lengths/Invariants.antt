use Rattle.std.proofs.Common.{◌≡◌, replicate}
use Rattle.cps_chunk.specs.Division.{full}
use Rattle.cps_live.proofs.entering.full_lengths.Given as goal

abbrev pub invariant-loop : goal.invariant-loop
invariant-loop l = l.lengths.items ≡ replicate l.counter full
