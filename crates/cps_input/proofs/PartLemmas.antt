-- Parts that stand one behind another in one list.
use Rattle.std.proofs.Common.{◌≡◌, ℕ, zero, suc, ◌-◌, ◌<◌, ◌≤◌, List, [], ◌∷◌, ◌++◌, length, take, drop, get_or, Some, refl, sym, ap, ◌∙◌, arith, length-append, length-drop}
use Rattle.std.proofs.lemmas.List.{take_all, drop_all, drop-append-le, take-append-le}
use Rattle.std.specs.Prelude.{slice_get, unwrap_or}
use Rattle.std.proofs.lemmas.Option.{slice_get-get_or}
use Rattle.cps_input.specs.Code.Parts.{parts_at, RisesTo}

pub rises-within : (begin size : ℕ) (ends : List ℕ) → RisesTo begin ends size → begin ≤ size
rises-within begin size [] rises = omega (arith, rises)
rises-within begin size (end ∷ ends) rises = omega (arith, rises.0, rises-within end size ends rises.1)

-- one more end
pub rises-more : (begin size more : ℕ) (ends : List ℕ) → RisesTo begin ends size → size ≤ more → RisesTo begin (ends ++ more ∷ []) more
rises-more begin size more [] rises within = (omega (arith, rises, within), refl)
rises-more begin size more (end ∷ ends) rises within = (rises.0, rises-more end size more ends rises.1 within)

pub count-parts : {A : Type 0} (begin : ℕ) (ends : List ℕ) (items : List A) → length (parts_at begin ends items) ≡ length ends
count-parts begin [] items = refl
count-parts begin (end ∷ ends) items = ap suc (count-parts end ends items)

-- one more part
pub parts-more : {A : Type 0} (begin more : ℕ) (ends : List ℕ) (items part : List A) → RisesTo begin ends (length items) → more ≡ length (items ++ part)
    → parts_at begin (ends ++ more ∷ []) (items ++ part) ≡ parts_at begin ends items ++ part ∷ []
parts-more begin more [] items part rises is =
    let behind = drop-append-le begin items part (omega (arith, rises)) ∙ ap (λ front. front ++ part) (drop_all begin items (omega (arith, rises))) in
    let whole = take_all (more - begin) part (omega (arith, length-append items part, is, rises)) in
    ap (λ l. l ∷ []) (ap (take (more - begin)) behind ∙ whole)
parts-more begin more (end ∷ ends) items part rises is =
    let within = rises-within end (length items) ends rises.1 in
    let long : end - begin ≤ length (drop begin items) = omega (arith, length-drop begin items, within, rises.0) in
    let first = ap (take (end - begin)) (drop-append-le begin items part (omega (arith, within, rises.0))) ∙ take-append-le (end - begin) (drop begin items) part long in
    λ i. first i ∷ parts-more end more ends items part rises.1 is i

-- ---- the part behind so many others, by two ends

pub end-within : (begin size : ℕ) (ends : List ℕ) (at a : ℕ) → RisesTo begin ends size → at < length ends → a ≡ get_or ends at a → a ≤ size
end-within begin size [] at a rises lt is = absurd (omega (arith, lt))
end-within begin size (end ∷ ends) zero a rises lt is = omega (arith, rises-within end size ends rises.1, is)
end-within begin size (end ∷ ends) (suc at) a rises lt is = end-within end size ends at a rises.1 (omega (arith, lt)) is

pub end-behind : (begin size : ℕ) (ends : List ℕ) (at a b : ℕ) → RisesTo begin ends size → suc at < length ends → a ≡ get_or ends at a → b ≡ get_or ends (suc at) b → a ≤ b
end-behind begin size [] at a b rises lt is-a is-b = absurd (omega (arith, lt))
end-behind begin size (e ∷ []) at a b rises lt is-a is-b = absurd (omega (arith, lt))
end-behind begin size (e ∷ f ∷ ends) zero a b rises lt is-a is-b = omega (arith, rises.1.0, is-a, is-b)
end-behind begin size (e ∷ f ∷ ends) (suc at) a b rises lt is-a is-b = end-behind e size (f ∷ ends) at a b rises.1 (omega (arith, lt)) is-a is-b

pub first-part : {A : Type 0} (ends : List ℕ) (items : List A) (a : ℕ) → 0 < length ends → a ≡ get_or ends 0 a → slice_get (parts_at 0 ends items) 0 ≡ Some (take a items)
first-part [] items a some is = absurd (omega (arith, some))
first-part (end ∷ ends) items a some is =
    let same : end - 0 ≡ a = omega (arith, is) in
    ap (λ n. Some (take n items)) same

pub later-part : {A : Type 0} (begin : ℕ) (ends : List ℕ) (items : List A) (at a b : ℕ) → suc at < length ends → a ≡ get_or ends at a → b ≡ get_or ends (suc at) b
    → slice_get (parts_at begin ends items) (suc at) ≡ Some (take (b - a) (drop a items))
later-part begin [] items at a b lt is-a is-b = absurd (omega (arith, lt))
later-part begin (e ∷ []) items at a b lt is-a is-b = absurd (omega (arith, lt))
later-part begin (e ∷ f ∷ ends) items zero a b lt is-a is-b = λ i. Some (take (sym is-b i - sym is-a i) (drop (sym is-a i) items))
later-part begin (e ∷ f ∷ ends) items (suc at) a b lt is-a is-b = later-part e (f ∷ ends) items at a b (omega (arith, lt)) is-a is-b

pub place-behind : (n : ℕ) → (n ≡ 0 → ⊥) → n ≡ suc (n - 1)
place-behind n some = omega (arith, some)

-- a part that was got is the one at its place
pub part-at : {A : Type 0} (parts : List A) (at : ℕ) (part : A) → at < length parts → slice_get parts at ≡ Some part → part ≡ get_or parts at part
part-at parts at part lt is = ap (λ o. unwrap_or o part) (sym is ∙ slice_get-get_or parts at part lt)
