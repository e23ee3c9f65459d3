-- Items in the place of others.
use Rattle.std.proofs.Common.{◌≡◌, ℕ, ◌+◌, ◌<◌, ◌≤◌, sym, ap, ◌∙◌, List, [], ◌∷◌, ◌++◌, append_assoc, length, get_or, set, take, drop, arith}
use Rattle.std.proofs.lemmas.List.{length-take-le, take_more, set_at}
use Rattle.cps_edit.proofs.TakenLemmas.{drop_at}

-- one item more in the place of another, from the last to the first
pub replace-place : {X : Type 0} (xs ns rest ts : List X) (a b keep : ℕ) (x : X) → a ≡ b + 1 → b < length ns → keep + length ns ≤ length xs → x ≡ get_or ns b x
    → ts ≡ take (keep + a) xs ++ (drop a ns ++ rest) → set ts (keep + b) x ≡ take (keep + b) xs ++ (drop b ns ++ rest)
replace-place xs ns rest ts a b keep x one lt within is before =
    let k = keep + b in
    let at : k < length xs = omega (arith, lt, within) in
    let next : keep + a ≡ k + 1 = omega (arith, one) in
    let split : drop b ns ≡ x ∷ drop a ns = drop_at ns b x lt is ∙ ap (λ n. x ∷ drop n ns) (sym one) in
    let long : length (take k xs) ≡ k = length-take-le k xs (omega (arith, at)) in
    ap (λ us. set us k x)
    (before ∙ ap (λ n. take n xs ++ (drop a ns ++ rest)) next ∙ ap (λ us. us ++ (drop a ns ++ rest)) (take_more xs k x at)
    ∙ append_assoc (take k xs) (get_or xs k x ∷ []) (drop a ns ++ rest))
    ∙ set_at (take k xs) (get_or xs k x) (drop a ns ++ rest) x k long
    ∙ ap (λ us. take k xs ++ (us ++ rest)) (sym split)
