use Rattle.std.proofs.Common.{◌≡◌, [], ◌++◌, cond, None, Some, sym, ap, ◌∙◌, append_assoc, append-nil}
use Rattle.std.specs.Option.{option_map_or}
use Rattle.cps_compare.specs.Told.{word_rows, digit_rows, given_for, rows_for}
use Rattle.cps_compare.proofs.KeptLemmas.{kept-given, kept-rows}
use Rattle.cps_compare.proofs.word_sides.WordSides.tell.Goals as goal

pub returns-in_ok-tell_digits : goal.returns-in_ok-tell_digits
returns-in_ok-tell_digits g c = λ sides kept.
    let address = c.args.address in
    let text = c.args.telling.now.text.items in
    let digits = c.show.new.digits.items in
    let shows = c.word-given.ensures.shows sides.claims kept.claims in
    let given = kept-given sides.claims address c.word-given.result shows in
    let rows = kept-rows sides.claims address c.word-given.result shows in
    let word : sides.words address ≡ Some digits =
    c.in_ok-show.ensures.word (g.V.View.assembly c.args.view.now) sides kept ∙ ap (λ b. cond b (Some digits) None) c.if-branch.true in
    c.in_ok-tell_digits.ensures sides kept given
    ∙ ap (λ l. l ++ digit_rows sides address digits)
    (c.in_ok-push_words.ensures ∙ (λ i. text ++ word_rows address (Some (c.deref.ensures.value i)) (given i) (rows i)))
    ∙ append_assoc text (word_rows address (Some digits) (given_for sides address) (rows_for sides.claims address)) (digit_rows sides address digits)
    ∙ ap (λ o. text ++ (word_rows address o (given_for sides address) (rows_for sides.claims address) ++ option_map_or (digit_rows sides address) o [])) (sym word)

pub returns-in_ok-push_words-2 : goal.returns-in_ok-push_words-2
returns-in_ok-push_words-2 g c = λ sides kept.
    let address = c.args.address in
    let text = c.args.telling.now.text.items in
    let shows = c.word-given.ensures.shows sides.claims kept.claims in
    let given = kept-given sides.claims address c.word-given.result shows in
    let rows = kept-rows sides.claims address c.word-given.result shows in
    let word : sides.words address ≡ None =
    c.in_ok-show.ensures.word (g.V.View.assembly c.args.view.now) sides kept ∙ ap (λ b. cond b (Some c.show.new.digits.items) None) c.if-branch.false in
    c.in_ok-push_words-2.ensures ∙ (λ i. text ++ word_rows address None (given i) (rows i))
    ∙ ap (λ l. text ++ l) (sym (append-nil (word_rows address None (given_for sides address) (rows_for sides.claims address))))
    ∙ ap (λ o. text ++ (word_rows address o (given_for sides address) (rows_for sides.claims address) ++ option_map_or (digit_rows sides address) o [])) (sym word)
