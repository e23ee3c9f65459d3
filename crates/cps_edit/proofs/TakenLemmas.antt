-- Items of lists at places.
use Rattle.std.proofs.Common.{◌≡◌, ℕ, zero, suc, ◌+◌, ◌-◌, ◌<◌, refl, sym, ap, ◌∙◌, List, ◌∷◌, length, get_or, take, drop, Some, arith}
use Rattle.std.proofs.lemmas.List.{drop_more, get_or-take, take-take}
use Rattle.cps_edit.specs.Renewed.{nones}

pub drop_at : {X : Type 0} (xs : List X) (i : ℕ) (x : X) → i < length xs → x ≡ get_or xs i x → drop i xs ≡ x ∷ drop (i + 1) xs
drop_at xs i x lt is = drop_more xs i x lt ∙ ap (λ y. y ∷ drop (i + 1) xs) (sym is)

-- what a pop of the first a gives
pub popped : {X : Type 0} (N S : List X) (a b : ℕ) (n : X) → S ≡ take a N → a ≡ b + 1 → Some n ≡ Some (get_or S (a - 1) n) → n ≡ get_or N b n
popped N S a b n is p got =
    let here : n ≡ get_or S (a - 1) n = cc in
    let at : a - 1 ≡ b = omega arith in
    here ∙ ap (λ i. get_or S i n) at ∙ ap (λ xs. get_or xs b n) is ∙ get_or-take a N b n (omega arith)

pub fewer : {X : Type 0} (N S R : List X) (a b : ℕ) → S ≡ take a N → a ≡ b + 1 → R ≡ take (a - 1) S → R ≡ take b N
fewer N S R a b is p rest =
    let at : a - 1 ≡ b = omega arith in
    rest ∙ ap (λ i. take i S) at ∙ ap (take b) is ∙ take-take b a N (omega arith)

pub length_nones : (X : Type 0) (n : ℕ) → length (nones {X = X} n) ≡ n
length_nones X zero = refl
length_nones X (suc n) = ap suc (length_nones X n)
