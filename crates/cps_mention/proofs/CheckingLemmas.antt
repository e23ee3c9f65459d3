-- What is written in one stretch more, and one mention more that stands.
use Rattle.std.proofs.Common.{◌≡◌, ℕ, List, [], ◌∷◌, ◌++◌, ◌+◌, ◌<◌, length, take, get_or, All, sym, ap, subst, ◌∙◌}
use Rattle.std.specs.List.{flat_map}
use Rattle.std.proofs.lemmas.List.{take_more, append-nil}
use Rattle.std.proofs.lemmas.Grind.{flat_map-append}
use Rattle.std.proofs.lemmas.List.Elements.{All-more, All-same, All-push}

pub text-more : {X Y : Type 0} (f : X → List Y) (xs : List X) (i : ℕ) (d : X) (text part grown : List Y) → i < length xs
    → text ≡ flat_map f (take i xs) → part ≡ f (get_or xs i d) → grown ≡ text ++ part → grown ≡ flat_map f (take (i + 1) xs)
text-more f xs i d text part grown within so is more =
    more
    ∙ ap (λ t. t ++ part) so
    ∙ ap (λ t. flat_map f (take i xs) ++ t) (is ∙ sym (append-nil (f (get_or xs i d))))
    ∙ sym (flat_map-append f (take i xs) (get_or xs i d ∷ []))
    ∙ sym (ap (flat_map f) (take_more xs i d within))

pub all-grown : {X : Type 0} (P : X → Type 0) (xs ys : List X) (x : X) → All P xs → P x → ys ≡ xs ++ x ∷ [] → All P ys
all-grown P xs ys x all one is = All-same P ys (xs ++ x ∷ []) is (All-push P xs x all one)
