-- Lists that grow by one.
use Rattle.std.proofs.Common.{◌≡◌, ℕ, List, [], ◌∷◌, ◌++◌, ◌+◌, ◌<◌, length, take, get_or, map, All, sym, ap, ◌∙◌}
use Rattle.std.proofs.lemmas.List.{map-append, map_more}
use Rattle.std.proofs.lemmas.List.Elements.{All-same, All-push}

pub all-grown : {X : Type 0} (P : X → Type 0) (xs ys : List X) (x : X) → All P xs → P x → ys ≡ xs ++ x ∷ [] → All P ys
all-grown P xs ys x all one is = All-same P ys (xs ++ x ∷ []) is (All-push P xs x all one)

-- one more of some, each of which is told
pub told-more : {X V D : Type 0} (view : V → D) (tell : X → D) (xs : List X) (i : ℕ) (d : X) (old new : List V) (v : V) → i < length xs
    → map view old ≡ map tell (take i xs) → view v ≡ tell (get_or xs i d) → new ≡ old ++ v ∷ [] → map view new ≡ map tell (take (i + 1) xs)
told-more view tell xs i d old new v within before is added =
    ap (map view) added ∙ map-append view old (v ∷ []) ∙ (λ j. before j ++ is j ∷ []) ∙ sym (map_more tell xs i d within)
