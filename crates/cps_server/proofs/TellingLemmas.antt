-- What is told of one thing more.
use Rattle.std.proofs.Common.{◌≡◌, ℕ, List, [], ◌∷◌, ◌++◌, ◌+◌, ◌<◌, length, take, get_or, map, sym, ap, ◌∙◌}
use Rattle.std.proofs.lemmas.List.{map-append, take_more}
use Rattle.serde_json.specs.Data.{Data}

pub told-more : {A : Type 0} (f : A → Data) (list : List A) (i : ℕ) (d : A) (told : List Data) (one : Data) (grown : List Data) → i < length list
    → told ≡ map f (take i list) → one ≡ f (get_or list i d) → grown ≡ told ++ one ∷ [] → grown ≡ map f (take (i + 1) list)
told-more f list i d told one grown within so is more =
    more ∙ (λ j. so j ++ is j ∷ []) ∙ sym (map-append f (take i list) (get_or list i d ∷ [])) ∙ sym (ap (map f) (take_more list i d within))

-- the same of things that stand for others
pub told-twice : {A B : Type 0} (f : B → Data) (g : A → B) (list : List A) (i : ℕ) (d : A) (told : List Data) (one : Data) (grown : List Data) → i < length list
    → told ≡ map f (map g (take i list)) → one ≡ f (g (get_or list i d)) → grown ≡ told ++ one ∷ [] → grown ≡ map f (map g (take (i + 1) list))
told-twice f g list i d told one grown within so is more =
    more ∙ (λ j. so j ++ is j ∷ []) ∙ sym (map-append f (map g (take i list)) (g (get_or list i d) ∷ []))
    ∙ sym (ap (map f) (map-append g (take i list) (get_or list i d ∷ []))) ∙ sym (ap (λ l. map f (map g l)) (take_more list i d within))
