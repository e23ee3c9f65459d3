use Rattle.std.proofs.Common.{map, take, flat_map}
use Rattle.cps_code.specs.declared.hole.Hole.{Hole}
use Rattle.cps_code.specs.Operand.{operand_names}
use Rattle.cps_state.specs.declared.key.Key.TheVariants as key
use Rattle.cps_chunk.proofs.MarkLemmas.{WereMarked}
use Rattle.cps_chunk.proofs.key_filter.KeyFilter.mark_holes.Given as goal

abbrev pub invariant-loop-hole : goal.invariant-loop-hole
invariant-loop-hole l = WereMarked l.hashing l.fn.self l.self (map key.Label (flat_map (λ (hole : Hole). operand_names hole.operand) (take l.hole-index l.holes)))
