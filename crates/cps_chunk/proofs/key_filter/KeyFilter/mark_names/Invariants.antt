use Rattle.std.proofs.Common.{map, take, flat_map}
use Rattle.cps_state.specs.declared.item.Item.{Item}
use Rattle.cps_state.specs.declared.key.Key.TheVariants as key
use Rattle.cps_state.specs.Made.{content_names}
use Rattle.cps_chunk.proofs.MarkLemmas.{WereMarked}
use Rattle.cps_chunk.proofs.key_filter.KeyFilter.mark_names.Given as goal

abbrev pub invariant-loop-item : goal.invariant-loop-item
invariant-loop-item l = WereMarked l.hashing l.fn.self l.self (map key.Label (flat_map (λ (item : Item). flat_map content_names item.made.contents) (take l.item-index l.item-items)))
