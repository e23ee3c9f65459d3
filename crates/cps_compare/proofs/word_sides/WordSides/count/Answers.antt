use Rattle.std.proofs.Common.{cond, None, Some, sym, ap, ◌∙◌}
use Rattle.cps_compare.proofs.word_sides.WordSides.count.Goals as goal

pub returns-then-branch : goal.returns-then-branch
returns-then-branch c = λ assembly sides kept.
    c.counts_beside.ensures assembly sides kept
    (c.in_ok-show.ensures.word assembly sides kept ∙ ap (λ b. cond b (Some c.show.new.digits.items) None) c.if-branch.true ∙ ap Some (sym c.deref.ensures.value))

pub returns-else-branch : goal.returns-else-branch
returns-else-branch c = λ assembly sides kept.
    c.counts_beside-else-branch.ensures assembly sides kept
    (c.in_ok-show.ensures.word assembly sides kept ∙ ap (λ b. cond b (Some c.show.new.digits.items) None) c.if-branch.false)
