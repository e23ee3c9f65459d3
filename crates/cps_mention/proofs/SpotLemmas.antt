-- Spots that are found stay so where one more is.
use Rattle.std.proofs.Common.{◌≡◌, ℕ, List, [], ◌∷◌, ◌++◌, ◌+◌, ◌<◌, length, take, get_or, All, Contains, map, sym, subst}
use Rattle.std.proofs.lemmas.List.{map-append}
use Rattle.std.proofs.lemmas.List.Elements.{All-more, All-weaker, Contains-append_left, Contains-push}
use Rattle.cps_mention.specs.declared.spot.Spot.{Spot}
use Rattle.cps_mention.specs.Code.Finding.{IsFound, stretches_of}

still-found : (found : List Spot) (one spot : Spot) → IsFound found spot → IsFound (found ++ one ∷ []) spot
still-found found one spot is =
    subst (λ stretches. Contains stretches spot.stretch) (sym (map-append (λ (s : Spot). s.stretch) found (one ∷ [])))
    (Contains-append_left (stretches_of found) (one.stretch ∷ []) spot.stretch is)

now-found : (found : List Spot) (one : Spot) → IsFound (found ++ one ∷ []) one
now-found found one =
    subst (λ stretches. Contains stretches one.stretch) (sym (map-append (λ (s : Spot). s.stretch) found (one ∷ [])))
    (Contains-push (stretches_of found) one.stretch)

-- one more is found, and so are those before it
pub found-more : (said found grown : List Spot) (i : ℕ) (d : Spot) → i < length said → All (IsFound found) (take i said)
    → grown ≡ found ++ get_or said i d ∷ [] → All (IsFound grown) (take (i + 1) said)
found-more said found grown i d within before is =
    let more = found ++ get_or said i d ∷ [] in
    subst (λ spots. All (IsFound spots) (take (i + 1) said)) (sym is)
    (All-more (IsFound more) said i d within
    (All-weaker (IsFound found) (IsFound more) (still-found found (get_or said i d)) (take i said) before) (now-found found (get_or said i d)))
