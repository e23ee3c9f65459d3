use Rattle.std.proofs.Common.{codes, decimal}
use Rattle.cps_claims.specs.Shown.{kept_digit}
use Rattle.cps_compare.specs.Given.{again_word}
use Rattle.cps_compare.proofs.TextLemmas.{five-pieces}
use Rattle.cps_compare.proofs.difference_rows.push_again_row.Goals as goal

pub returns : goal.returns
returns c =
    five-pieces c.args.text.now.items (codes "       again ") (again_word (kept_digit c.args.given.now)) (codes "  row ") (decimal c.args.given.now.again_row) (codes "\n")
    _ _ _ _ _ c.in_ok-extend_from_slice.ensures.items c.in_ok-push_again.ensures c.in_ok-extend_from_slice-2.ensures.items c.in_ok-push_decimal.ensures
    c.in_ok-push.ensures.items
