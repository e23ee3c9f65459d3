use Rattle.std.proofs.Common.{◌≡◌, [], ◌++◌, List, ℕ, cond, true, false, sym, ap, ◌∙◌, append_assoc, append-nil}
use Rattle.cps_claims.specs.declared.listed_digit.ListedDigit.{ListedDigit}
use Rattle.cps_compare.specs.ListedSides.{is_listed, place_rows, code_rows}
use Rattle.cps_compare.proofs.listed_sides.ListedSides.tell.Goals as goal

pub returns-in_ok-tell_places : goal.returns-in_ok-tell_places
returns-in_ok-tell_places g c = λ sides kept.
    let address = c.args.address in
    let old = c.args.text.now.items in
    let given : c.at.result.now ≡ sides.text address =
    c.at.ensures.digits kept.text_codes kept.text_kept ∙ ap (λ (f : ℕ → List ListedDigit). f address) (sym kept.text) in
    let deck : c.at-deck.result.now ≡ sides.deck address =
    c.at-deck.ensures.digits kept.deck_codes kept.deck_kept ∙ ap (λ (f : ℕ → List ListedDigit). f address) (sym kept.deck) in
    let front = code_rows address (sides.deck address) (sides.text address) in
    let stands : is_listed (sides.deck address) ≡ true = sym (c.is_listed.ensures ∙ ap is_listed deck) ∙ c.if-is_listed.true in
    c.in_ok-tell_places.ensures sides kept
    ∙ ap (λ l. l ++ place_rows sides address) (c.in_ok-push_codes.ensures ∙ (λ i. old ++ code_rows address (deck i) (given i)))
    ∙ append_assoc old front (place_rows sides address)
    ∙ ap (λ b. old ++ (front ++ cond b (place_rows sides address) [])) (sym stands)

pub returns-else-is_listed : goal.returns-else-is_listed
returns-else-is_listed g c = λ sides kept.
    let address = c.args.address in
    let old = c.args.text.now.items in
    let given : c.at.result.now ≡ sides.text address =
    c.at.ensures.digits kept.text_codes kept.text_kept ∙ ap (λ (f : ℕ → List ListedDigit). f address) (sym kept.text) in
    let deck : c.at-deck.result.now ≡ sides.deck address =
    c.at-deck.ensures.digits kept.deck_codes kept.deck_kept ∙ ap (λ (f : ℕ → List ListedDigit). f address) (sym kept.deck) in
    let front = code_rows address (sides.deck address) (sides.text address) in
    let stands : is_listed (sides.deck address) ≡ false = sym (c.is_listed.ensures ∙ ap is_listed deck) ∙ c.if-is_listed.false in
    c.in_ok-push_codes.ensures ∙ (λ i. old ++ code_rows address (deck i) (given i))
    ∙ ap (λ l. old ++ l) (sym (append-nil front))
    ∙ ap (λ b. old ++ (front ++ cond b (place_rows sides address) [])) (sym stands)
