use Rattle.std.proofs.Common.{◌≡◌, [], ◌++◌, cond, ltb, length, sym, ap, ◌∙◌, append_assoc}
use Rattle.cps_compare.specs.Given.{shown_word}
use Rattle.cps_compare.specs.Differences.{places_of}
use Rattle.cps_compare.specs.Told.{caret_row, given_for, made_rows}
use Rattle.cps_compare.proofs.word_sides.WordSides.tell_digits.Goals as goal

pub returns : goal.returns
returns g c = λ sides kept same.
    let address = c.args.address in
    let assembly = g.V.View.assembly c.args.view.now in
    let word = c.args.telling.now.digits.items in
    let text = c.args.telling.now.text.items in
    let given = given_for sides address in
    let shown = ap (λ n. ltb 0 n) (c.count_given-shown.ensures.shown ∙ ap (λ given. length (shown_word given)) same) in
    let at : c.places_of-places.result.items ≡ places_of sides.whole word given =
    c.places_of-places.ensures.places ∙ (λ i. places_of (sym kept.whole i) (c.deref.ensures.value i) (same i)) in
    let carets : c.push_carets.new.text.items ≡ text ++ cond (ltb 0 (length (shown_word given))) (caret_row (places_of sides.whole word given)) [] =
    c.in_ok-push_carets.ensures ∙ (λ i. text ++ cond (shown i) (caret_row ((c.deref-2.ensures.0 ∙ at) i)) []) in
    let made : c.push_makers.new.text.items ≡ c.push_carets.new.text.items ++ made_rows sides.lines (λ number. sides.statements number address) (sides.maker address) (places_of sides.whole word given) =
    c.in_ok-push_makers.ensures
    ∙ (λ i. c.push_carets.new.text.items ++ made_rows (sym kept.lines i) (λ number. sym kept.statements i number address) (sym kept.maker i address) ((c.deref-3.ensures.0 ∙ at) i)) in
    made ∙ ap (λ l. l ++ made_rows sides.lines (λ number. sides.statements number address) (sides.maker address) (places_of sides.whole word given)) carets
    ∙ append_assoc text (cond (ltb 0 (length (shown_word given))) (caret_row (places_of sides.whole word given)) [])
    (made_rows sides.lines (λ number. sides.statements number address) (sides.maker address) (places_of sides.whole word given))
