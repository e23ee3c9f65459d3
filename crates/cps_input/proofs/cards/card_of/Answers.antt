use Rattle.std.proofs.Common.{sym, ◌∙◌, rules}
use Rattle.cps_text.specs.Line.{IsLine}
use Rattle.cps_input.proofs.CardLemmas.{card_of-line}
use Rattle.cps_input.proofs.cards.card_of.Goals as goal

pub returns-in-Ok : goal.returns-in-Ok
returns-in-Ok c =
    let is : IsLine c.args.line.now = search rules in
    c.in-Ok.ensures.ok ∙ sym (card_of-line c.args.line.now is)
