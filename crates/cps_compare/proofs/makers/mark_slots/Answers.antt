use Rattle.std.proofs.Common.{◌≡◌, ◌&&◌, cond, leb, ltb, ap, ◌∙◌, arith}
use Rattle.cps_compare.specs.Code.Deck.{slot_at}
use Rattle.cps_compare.proofs.makers.mark_slots.Goals as goal

pub returns : goal.returns
returns c = λ slot.
    let same : c.loop-slot.slot ≡ c.args.to = omega arith in
    c.loop-slot.invariant slot ∙ ap (λ end. cond (leb c.args.from slot && ltb slot end) c.args.maker (slot_at c.args.slots.now slot)) same
