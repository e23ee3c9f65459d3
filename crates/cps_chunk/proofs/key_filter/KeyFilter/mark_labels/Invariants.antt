use Rattle.std.proofs.Common.{map, take}
use Rattle.cps_state.specs.declared.key.Key.TheVariants as key
use Rattle.cps_chunk.proofs.MarkLemmas.{WereMarked}
use Rattle.cps_chunk.proofs.key_filter.KeyFilter.mark_labels.Given as goal

abbrev pub invariant-loop-name : goal.invariant-loop-name
invariant-loop-name l = WereMarked l.hashing l.fn.self l.self (map key.Label (take l.name-index l.names))
