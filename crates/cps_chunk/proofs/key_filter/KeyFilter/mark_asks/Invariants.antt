use Rattle.std.proofs.Common.{map, take}
use Rattle.cps_state.specs.declared.key.Asked.{Asked}
use Rattle.cps_chunk.proofs.MarkLemmas.{WereMarked}
use Rattle.cps_chunk.proofs.key_filter.KeyFilter.mark_asks.Given as goal

abbrev pub invariant-loop-asked : goal.invariant-loop-asked
invariant-loop-asked l = WereMarked l.hashing l.fn.self l.self (map (λ (a : Asked). a.key) (take l.asked-index l.asked-items))
