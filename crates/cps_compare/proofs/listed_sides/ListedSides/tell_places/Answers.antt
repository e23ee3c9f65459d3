use Rattle.std.proofs.Common.{◌≡◌, [], ◌++◌, ◌<◌, ◌^◌, List, ℕ, cond, sym, ap, subst, ◌∙◌, append_assoc, append-nil, All}
use Rattle.cps_claims.specs.declared.listed_digit.ListedDigit.{ListedDigit}
use Rattle.cps_claims.specs.ListedPlaces.{listed_places}
use Rattle.cps_compare.specs.ListedSides.{is_listed, line_of, place_rows, code_rows}
use Rattle.cps_compare.specs.Told.{caret_row, made_rows}
use Rattle.cps_compare.proofs.ListingLemmas.{listed-below}
use Rattle.cps_compare.proofs.listed_sides.ListedSides.tell_places.Goals as goal

pub push_carets-requires : goal.push_carets-requires
push_carets-requires g c =
    subst (λ l. All (λ place. place < 2 ^ 32) l) (sym (c.deref.ensures.value ∙ c.in_ok-places.ensures))
    (listed-below c.args.self.now.whole c.at-deck.result.now c.at-given.result.now c.at-deck.ensures.few c.at-given.ensures.few)

pub returns : goal.returns
returns g c = λ sides kept.
    let address = c.args.address in
    let old = c.args.text.now.items in
    let given : c.at-given.result.now ≡ sides.text address =
    c.at-given.ensures.digits kept.text_codes kept.text_kept ∙ ap (λ (f : ℕ → List ListedDigit). f address) (sym kept.text) in
    let deck : c.at-deck.result.now ≡ sides.deck address =
    c.at-deck.ensures.digits kept.deck_codes kept.deck_kept ∙ ap (λ (f : ℕ → List ListedDigit). f address) (sym kept.deck) in
    let places = c.in_ok-places.ensures ∙ (λ i. listed_places (sym kept.whole i) (deck i) (given i)) in
    let at = listed_places sides.whole (sides.deck address) (sides.text address) in
    let carets = cond (is_listed (sides.text address)) (caret_row at) [] in
    let made = made_rows sides.lines (λ number. sides.statements number address) (line_of (sides.deck address)) at in
    let first : c.push_carets.new.text.items ≡ old ++ carets =
    c.in_ok-push_carets.ensures ∙ (λ i. old ++ cond ((c.is_listed.ensures ∙ ap is_listed given) i) (caret_row ((c.deref.ensures.value ∙ places) i)) []) in
    c.in_ok-push_lines.ensures
    ∙ (λ i. c.push_carets.new.text.items ++ made_rows (sym kept.lines i) (λ number. sym kept.statements i number address) (line_of (deck i)) ((c.deref-2.ensures.value ∙ places) i))
    ∙ ap (λ l. l ++ made) first ∙ append_assoc old carets made
