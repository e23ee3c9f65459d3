use Rattle.std.proofs.Common.{map, take}
use Rattle.cps_state.specs.declared.key.Put.{Put}
use Rattle.cps_chunk.proofs.MarkLemmas.{WereMarked}
use Rattle.cps_chunk.proofs.key_filter.KeyFilter.mark_puts.Given as goal

abbrev pub invariant-loop-put : goal.invariant-loop-put
invariant-loop-put l = WereMarked l.hashing l.fn.self l.self (map (λ (p : Put). p.key) (take l.put-index l.put-items))
