-- A text cut into tokens.
use Rattle.std.proofs.Common.{◌≡◌, ℕ, zero, suc, ◌<◌, ◌≤◌, true, false, List, [], ◌∷◌, length, get_or, take, drop, sym, ap, ◌∙◌, arith}
use Rattle.cps_expr.specs.Term.{is_operator, onto_token, tokens_of}
use Rattle.cps_expr.proofs.Choices.{chosen_first, chosen_second}

-- an operator in front
pub operator-first : (text : List ℕ) → 0 < length text → is_operator (get_or text 0 0) ≡ true → tokens_of text ≡ take 1 text ∷ tokens_of (drop 1 text)
operator-first [] some is = absurd (omega arith)
operator-first (c ∷ text) some is = chosen_first (is_operator c) ((c ∷ []) ∷ tokens_of text) (onto_token c (tokens_of text)) is

-- characters in front, up to the first operator
pub run-first : (n : ℕ) (text : List ℕ) → 0 < length text → is_operator (get_or text 0 0) ≡ false → n ≤ length text
    → ((k : ℕ) → k < n → is_operator (get_or text k 0) ≡ false) → (n < length text → is_operator (get_or text n 0) ≡ true)
    → tokens_of text ≡ take n text ∷ tokens_of (drop n text)
run-first zero text some first within before found = let here = found some in cc
run-first (suc n) [] some first within before found = absurd (omega arith)
run-first (suc zero) (c ∷ []) some first within before found = chosen_second (is_operator c) ((c ∷ []) ∷ []) ((c ∷ []) ∷ []) first
run-first (suc zero) (c ∷ d ∷ text) some first within before found =
    let next : tokens_of (d ∷ text) ≡ (d ∷ []) ∷ tokens_of text = operator-first (d ∷ text) (omega arith) (found (omega arith)) in
    chosen_second (is_operator c) ((c ∷ []) ∷ tokens_of (d ∷ text)) (onto_token c (tokens_of (d ∷ text))) first
    ∙ ap (onto_token c) next
    ∙ chosen_first (is_operator d) ((c ∷ []) ∷ (d ∷ []) ∷ tokens_of text) ((c ∷ d ∷ []) ∷ tokens_of text) (found (omega arith))
    ∙ ap (λ tokens. (c ∷ []) ∷ tokens) (sym next)
run-first (suc (suc n)) (c ∷ []) some first within before found = absurd (omega arith)
run-first (suc (suc n)) (c ∷ d ∷ text) some first within before found =
    let next = run-first (suc n) (d ∷ text) (omega arith) (before 1 (omega arith)) (omega arith) (λ k low. before (suc k) (omega arith)) (λ h. found (omega arith)) in
    chosen_second (is_operator c) ((c ∷ []) ∷ tokens_of (d ∷ text)) (onto_token c (tokens_of (d ∷ text))) first
    ∙ ap (onto_token c) next
    ∙ chosen_second (is_operator d) ((c ∷ []) ∷ (d ∷ take n text) ∷ tokens_of (drop n text)) ((c ∷ d ∷ take n text) ∷ tokens_of (drop n text)) (before 1 (omega arith))
