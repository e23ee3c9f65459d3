use Rattle.std.proofs.Common.{◌++◌, sym, ap, ◌∙◌, codes, decimal}
use Rattle.cps_compare.specs.Summary.{other_row}
use Rattle.cps_compare.proofs.TextLemmas.{five-pieces}
use Rattle.cps_compare.proofs.telling.push_other.Goals as goal

pub returns : goal.returns
returns c =
    five-pieces c.args.text.now.items (codes "other text: ") (decimal c.args.count) (codes " rows, first row ") (decimal c.in-Some.first) (codes "\n")
    _ _ _ _ _ c.in_ok-extend_from_slice.ensures.items c.in_ok-push_decimal.ensures c.in_ok-extend_from_slice-2.ensures.items c.in_ok-push_decimal-2.ensures
    c.in_ok-push.ensures.items
    ∙ ap (λ o. c.args.text.now.items ++ other_row c.args.count o) (sym c.in-Some.is)
