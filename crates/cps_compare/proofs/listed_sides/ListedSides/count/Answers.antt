use Rattle.std.proofs.Common.{◌≡◌, ◌&&◌, ◌||◌, not, ltb, length, List, ℕ, refl, sym, ap, ◌∙◌}
use Rattle.cps_claims.specs.declared.listed_digit.ListedDigit.{ListedDigit}
use Rattle.cps_claims.specs.ListedPlaces.{gives_listed, known_listed, unknown_listed, listed_places}
use Rattle.cps_compare.specs.ListedSides.{is_listed}
use Rattle.cps_compare.proofs.listed_sides.ListedSides.count.Goals as goal

pub returns : goal.returns
returns c = λ assembly sides kept.
    let address = c.args.address in
    let text : c.at-text.result.now ≡ sides.text address =
    c.at-text.ensures.digits kept.text_codes kept.text_kept ∙ ap (λ (f : ℕ → List ListedDigit). f address) (sym kept.text) in
    let deck : c.at-deck.result.now ≡ sides.deck address =
    c.at-deck.ensures.digits kept.deck_codes kept.deck_kept ∙ ap (λ (f : ℕ → List ListedDigit). f address) (sym kept.deck) in
    let gives = c.gives_listed-is_given.ensures ∙ ap gives_listed text in
    let shown = c.is_listed-is_shown.ensures ∙ ap is_listed text in
    let stands = c.is_listed-stands.ensures ∙ ap is_listed deck in
    let places = c.in_ok-places.ensures ∙ (λ i. listed_places (sym kept.whole i) (deck i) (text i)) in
    record {
      known = c.known_listed.ensures.count ∙ ap known_listed text;
      given = gives;
      unknown = c.unknown_listed.ensures.count ∙ ap unknown_listed text;
      denied = refl;
      absent = c.both.ensures ∙ (λ i. stands i && not (shown i));
      in_part = c.both-2.ensures ∙ (λ i. shown i && ltb (length (text i)) (length (deck i)));
      compared = c.either.ensures ∙ (λ i. gives i || (c.both-3.ensures ∙ (λ j. sym kept.whole j && stands j)) i);
      differs = c.has_places.ensures ∙ (λ i. ltb 0 (length ((c.deref.ensures.value ∙ places) i)));
    }
