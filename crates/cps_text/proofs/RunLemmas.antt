-- The runs of a text, from its first one on.
use Rattle.std.proofs.Common.{◌≡◌, ℕ, suc, ◌+◌, ◌<◌, Bool, true, false, not, List, [], ◌∷◌, length, take, drop, refl, sym, ap, ◌∙◌, arith}
use Rattle.std.specs.List.{position_or_len}
use Rattle.cps_text.specs.Runs.{joined, runs, run_len}

abbrev begins : (ℕ → Bool) → List ℕ → List (List ℕ)
begins p text = take (run_len p text) text ∷ runs p (drop (run_len p text) text)

alone : (p : ℕ → Bool) (c : ℕ) (b : Bool) → p c ≡ b → runs p (c ∷ []) ≡ begins p (c ∷ [])
alone p c true is = rw is refl
alone p c false is = rw is refl

apart : (p : ℕ → Bool) (c d : ℕ) (text : List ℕ) → p c ≡ true → p d ≡ false → joined p c (begins p (d ∷ text)) ≡ (c ∷ []) ∷ begins p (d ∷ text)
apart p c d text first second = rw (first, second, second) refl

by_itself : (p : ℕ → Bool) (c d : ℕ) (text : List ℕ) → p c ≡ true → p d ≡ false → (c ∷ []) ∷ runs p (d ∷ text) ≡ begins p (c ∷ d ∷ text)
by_itself p c d text first second = rw (first, second) refl

join : (p : ℕ → Bool) (c d : ℕ) (text : List ℕ) (b e : Bool) → p c ≡ b → p d ≡ e → runs p (d ∷ text) ≡ begins p (d ∷ text) → joined p c (begins p (d ∷ text)) ≡ begins p (c ∷ d ∷ text)
join p c d text true true first second more =
    let one : 1 + position_or_len (λ x. not (p x)) text ≡ suc (position_or_len (λ x. not (p x)) text) = omega arith in
    rw (first, second, one, second) refl
join p c d text true false first second more =
    let rest : (c ∷ []) ∷ begins p (d ∷ text) ≡ (c ∷ []) ∷ runs p (d ∷ text) = ap (λ r. (c ∷ []) ∷ r) (sym more) in
    apart p c d text first second ∙ rest ∙ by_itself p c d text first second
join p c d text false e first second more =
    let rest : (c ∷ []) ∷ begins p (d ∷ text) ≡ (c ∷ []) ∷ runs p (d ∷ text) = ap (λ r. (c ∷ []) ∷ r) (sym more) in
    rw first rest

pub runs-first : (p : ℕ → Bool) (c : ℕ) (text : List ℕ) → runs p (c ∷ text) ≡ begins p (c ∷ text)
runs-first p c [] = alone p c (p c) refl
runs-first p c (d ∷ text) = ap (joined p c) (runs-first p d text) ∙ join p c d text (p c) (p d) refl refl (runs-first p d text)

-- the first run and the others, of a text that isn't empty
pub runs-next : (p : ℕ → Bool) (text run rest : List ℕ) (at : ℕ) → 0 < length text → at ≡ run_len p text → run ≡ take at text → rest ≡ drop at text → runs p text ≡ run ∷ runs p rest
runs-next p [] run rest at some here front back = absurd (omega arith)
runs-next p (c ∷ text) run rest at some here front back =
    runs-first p c text ∙ sym (ap (λ r. r ∷ runs p rest) (front ∙ ap (λ n. take n (c ∷ text)) here) ∙ ap (λ r. take (run_len p (c ∷ text)) (c ∷ text) ∷ runs p r) (back ∙ ap (λ n. drop n (c ∷ text)) here))
