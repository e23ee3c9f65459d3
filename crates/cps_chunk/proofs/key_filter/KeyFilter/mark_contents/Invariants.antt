use Rattle.std.proofs.Common.{map, take, flat_map}
use Rattle.cps_state.specs.declared.key.Key.TheVariants as key
use Rattle.cps_state.specs.Made.{content_names}
use Rattle.cps_chunk.proofs.MarkLemmas.{WereMarked}
use Rattle.cps_chunk.proofs.key_filter.KeyFilter.mark_contents.Given as goal

abbrev pub invariant-loop-content : goal.invariant-loop-content
invariant-loop-content l = WereMarked l.hashing l.fn.self l.self (map key.Label (flat_map content_names (take l.content-index l.contents)))
