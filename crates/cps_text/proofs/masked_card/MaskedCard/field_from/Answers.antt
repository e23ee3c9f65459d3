use Rattle.std.proofs.Common.{◌≡◌, ◌+◌, ◌-◌, length, drop, not, sym, ap, ◌∙◌, arith}
use Rattle.std.specs.List.{position_or_len}
use Rattle.std.proofs.lemmas.List.{length-take-le}
use Rattle.std.proofs.lemmas.List.Sums.{prefix_len-le-length}
use Rattle.cps_text.specs.Text.{is_blank}
use Rattle.cps_text.proofs.masked_card.MaskedCard.field_from.Goals as goal

pub slice_bounds-result-length : goal.slice_bounds-result-length
slice_bounds-result-length c =
    let masked = c.requires.masked in
    let at = c.args.at in
    let text = c.args.self.text.now in
    let few = c.if-self-gt-MASK_COLUMNS.false in
    let place = c.first_set-end.ensures.place is_blank masked.columns masked.masks.blank masked.long ∙ ap (λ t. at + position_or_len is_blank (drop at t)) (masked.front few) in
    let bound = prefix_len-le-length (λ x. not (is_blank x)) (drop at text) in
    let rest : length c.from.result.now ≡ length (drop at text) = ap length c.from.ensures in
    sym (length-take-le (c.first_set-end.result - at) c.from.result.now (omega (arith, place, bound, rest)))
