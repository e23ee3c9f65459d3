use Rattle.std.proofs.Common.{◌≡◌, ℕ, ◌&&◌, cond, leb, ltb}
use Rattle.cps_compare.specs.Code.Deck.{slot_at}
use Rattle.cps_compare.proofs.makers.mark_slots.Given as goal

abbrev pub invariant-loop-slot : goal.invariant-loop-slot
invariant-loop-slot l = (slot : ℕ) → slot_at l.slots slot ≡ cond (leb l.from slot && ltb slot l.slot) l.maker (slot_at l.fn.slots slot)
