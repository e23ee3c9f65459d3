use Rattle.std.proofs.Common.{◌∙◌}
use Rattle.cps_input.proofs.CardLemmas.{card_of-front}
use Rattle.cps_input.proofs.cards.punch.Goals as goal

pub returns-in-Ok : goal.returns-in-Ok
returns-in-Ok c =
    c.in-Ok.ensures.ok ∙ c.as_slice.ensures.value
    ∙ card_of-front c.args.line.now _ _ c.first_columns.ensures c.in_ok-columns.ensures
