use Rattle.std.proofs.Common.{◌≡◌, ◌&&◌, ◌||◌, not, ltb, length, List, ℕ, sym, ap, ◌∙◌}
use Rattle.cps_claims.specs.declared.listed_digit.ListedDigit.{ListedDigit}
use Rattle.cps_claims.specs.ListedPlaces.{gives_listed, known_listed, unknown_listed, listed_places}
use Rattle.cps_compare.specs.ListedSides.{is_listed}
use Rattle.cps_compare.proofs.listed_sides.ListedSides.is_compared.Goals as goal

pub returns : goal.returns
returns c = λ assembly sides kept.
    let address = c.args.address in
    let deck : c.at.result.now ≡ sides.deck address =
    c.at.ensures.digits kept.deck_codes kept.deck_kept ∙ ap (λ (f : ℕ → List ListedDigit). f address) (sym kept.deck) in
    let gives = c.gives.ensures assembly sides kept in
    let stands = c.is_listed.ensures ∙ ap is_listed deck in
    c.either.ensures ∙ (λ i. gives i || (c.both.ensures ∙ (λ j. sym kept.whole j && stands j)) i)
