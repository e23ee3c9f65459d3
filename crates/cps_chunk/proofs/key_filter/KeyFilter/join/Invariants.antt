use Rattle.cps_chunk.proofs.MarkLemmas.{AreJoined}
use Rattle.cps_chunk.proofs.key_filter.KeyFilter.join.Given as goal

abbrev pub invariant-loop-i : goal.invariant-loop-i
invariant-loop-i l = AreJoined l.fn.self l.other l.self l.i
