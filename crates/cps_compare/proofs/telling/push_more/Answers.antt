use Rattle.std.proofs.Common.{codes, decimal}
use Rattle.cps_text.specs.Octal.{octal}
use Rattle.cps_compare.proofs.TextLemmas.{six-pieces}
use Rattle.cps_compare.proofs.telling.push_more.Goals as goal

pub returns : goal.returns
returns c =
    six-pieces c.args.text.now.items (octal 6 c.args.first) (codes " to ") (octal 6 c.args.last) (codes ": ") (decimal c.args.count) (codes " more words differ\n")
    _ _ _ _ _ _ c.in_ok-push_address.ensures c.in_ok-extend_from_slice.ensures.items c.in_ok-push_address-2.ensures c.in_ok-extend_from_slice-2.ensures.items
    c.in_ok-push_decimal.ensures c.in_ok-extend_from_slice-3.ensures.items
