use Rattle.std.proofs.Common.{codes}
use Rattle.cps_text.specs.Octal.{octal}
use Rattle.cps_compare.specs.ListedSides.{deck_told, text_told}
use Rattle.cps_compare.proofs.TextLemmas.{six-pieces}
use Rattle.cps_compare.proofs.listed_rows.push_codes.Goals as goal

pub returns : goal.returns
returns c =
    six-pieces c.args.text.now.items (octal 6 c.args.address) (codes " deck  ") (deck_told c.args.deck.now) (codes "\n       octal ")
    (text_told c.args.given.now) (codes "\n") _ _ _ _ _ _
    c.in_ok-push_address.ensures c.in_ok-extend_from_slice.ensures.items c.in_ok-push_deck.ensures c.in_ok-extend_from_slice-2.ensures.items
    c.in_ok-push_given.ensures c.in_ok-push.ensures.items
