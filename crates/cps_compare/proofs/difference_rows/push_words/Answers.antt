use Rattle.std.proofs.Common.{◌++◌, ap, ◌∙◌, codes}
use Rattle.std.specs.Option.{option_map}
use Rattle.cps_text.specs.Octal.{octal}
use Rattle.cps_claims.specs.Shown.{kept_digit}
use Rattle.cps_compare.specs.Told.{deck_text, octal_text, again_text}
use Rattle.cps_compare.specs.Code.Kept.{kept_rows}
use Rattle.cps_compare.proofs.TextLemmas.{seven-pieces}
use Rattle.cps_compare.proofs.difference_rows.push_words.Goals as goal

pub returns : goal.returns
returns c =
    let given = kept_digit c.args.given.now in
    let rows = kept_rows c.args.given.now in
    seven-pieces c.args.text.now.items (octal 6 c.args.address) (codes " deck  ") (deck_text (option_map (λ word. word.now) c.args.word)) (codes "\n       octal ")
    (octal_text given rows) (codes "\n") (again_text given rows) _ _ _ _ _ _ _
    (c.in_ok-push_octal.ensures.ok ∙ ap (λ n. c.args.text.now.items ++ octal 6 n) c.from.ensures) c.in_ok-extend_from_slice.ensures.items
    (c.in_ok-extend_from_slice-2.ensures.items ∙ ap (λ l. c.extend_from_slice.new.self.items ++ l) c.deck_text.ensures)
    c.in_ok-extend_from_slice-3.ensures.items c.in_ok-push_given.ensures c.in_ok-push.ensures.items c.in_ok-push_denied.ensures
