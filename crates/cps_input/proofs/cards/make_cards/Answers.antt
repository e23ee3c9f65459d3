use Rattle.std.proofs.Common.{◌∙◌, arith}
use Rattle.cps_input.proofs.CardLemmas.{cards_of-first}
use Rattle.cps_input.proofs.cards.make_cards.Goals as goal

pub returns : goal.returns
returns c =
    c.loop-line.invariant
    ∙ cards_of-first c.args.lines.now c.first_lines-line-items.result.now c.loop-line.line-index c.first_lines-line-items.ensures
    (let done = c.loop-line-test.false in omega arith)
