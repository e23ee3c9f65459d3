use Rattle.std.proofs.Common.{◌≡◌, length, eqb, ap, ◌∙◌, arith}
use Rattle.std.specs.List.{position_or_len}
use Rattle.cps_text.specs.Text.{is_filled}
use Rattle.cps_text.proofs.MaskLemmas.{blank-whole}
use Rattle.cps_text.proofs.masked_card.MaskedCard.is_blank.Goals as goal

pub returns : goal.returns
returns c =
    let text = c.args.self.text.now in
    let first : c.filled_from.result ≡ position_or_len is_filled text = c.filled_from.ensures.column ∙ omega arith in
    ap (λ n. eqb n (length text)) first ∙ blank-whole text
