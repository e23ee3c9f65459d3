use Rattle.std.proofs.Common.{◌/◌, ◌^◌, ap, ◌∙◌}
use Rattle.cps_text.proofs.MaskLemmas.{mask-drop, first-set}
use Rattle.cps_text.proofs.masked_card.first_set.Goals as goal

pub returns-clause-place : goal.returns-clause-place
returns-clause-place c = λ p columns is long.
    let shifted = ap (λ n. n / 2 ^ c.args.at) is ∙ mask-drop p c.args.at columns in
    c.min.ensures ∙ first-set p c.args.at c.args.places columns (c.args.bits / 2 ^ c.args.at) (let few = c.requires in few) c.if-at-places.false shifted long
