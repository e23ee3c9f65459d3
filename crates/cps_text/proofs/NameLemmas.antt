-- Names: padding them, character by character, and comparing them as numbers.
use Rattle.std.proofs.Common.{◌≡◌, ℕ, zero, suc, ◌+◌, ◌-◌, ◌<◌, ◌≤◌, List, [], ◌∷◌, ◌++◌, length, get_or, set, take, refl, sym, ap, ◌∙◌, arith, append_assoc, length-append, length-take, true, false, ◌&&◌}
use Rattle.std.specs.Prelude.{replicate, nat_eq}
use Rattle.std.specs.Int.{w64, from_le_bytes}
use Rattle.std.specs.Cmp.Lexicographic.{pointwise, same_text}
use Rattle.std.proofs.lemmas.Bool.Decides.{nat_tests}
use Rattle.std.proofs.lemmas.Nat.{le_bytes_8}
use Rattle.std.proofs.lemmas.List.{take_more, map-append, length-map}
use Rattle.cps_text.specs.Symbol.{padded}
use Rattle.cps_text.specs.Text.{capital, capitals}

set-behind : (xs ys : List ℕ) (old new : ℕ) → set (xs ++ old ∷ ys) (length xs) new ≡ xs ++ new ∷ ys
set-behind [] ys old new = refl
set-behind (x ∷ xs) ys old new = ap (λ l. x ∷ l) (set-behind xs ys old new)

padding-more : (n : ℕ) → 0 < n → replicate {A = ℕ} n 0 ≡ 0 ∷ replicate (n - 1) 0
padding-more zero some = absurd (omega arith)
padding-more (suc n) some = let same : suc n - 1 ≡ n = omega arith in rw same refl

padded-push : (xs : List ℕ) (v : ℕ) → length xs < 8 → set (padded xs) (length xs) v ≡ padded (xs ++ v ∷ [])
padded-push xs v short =
    let left : length (xs ++ v ∷ []) ≡ length xs + 1 = length-append xs (v ∷ []) in
    let next : 8 - length xs - 1 ≡ 8 - (length xs + 1) = omega arith in
    ap (λ padding. set (xs ++ padding) (length xs) v) (padding-more (8 - length xs) (omega arith))
    ∙ set-behind xs (replicate (8 - length xs - 1) 0) 0 v
    ∙ rw (left, next) (sym (append_assoc xs (v ∷ []) (replicate (8 - (length xs + 1)) 0)))

pub padded-more : (text : List ℕ) (i : ℕ) → i < length text → length text ≤ 8 → set (padded (capitals (take i text))) i (capital (get_or text i 0)) ≡ padded (capitals (take (i + 1) text))
padded-more text i within short =
    let front : length (capitals (take i text)) ≡ i = omega (arith, length-map (take i text) capital, length-take i text) in
    let pushed = padded-push (capitals (take i text)) (capital (get_or text i 0)) (omega arith) in
    let here = ap (λ n. set (padded (capitals (take i text))) n (capital (get_or text i 0))) (sym front) ∙ pushed in
    here ∙ ap padded (sym (ap capitals (take_more text i 0 within) ∙ map-append capital (take i text) (get_or text i 0 ∷ [])))

-- ---- names as numbers

same-number : (n : ℕ) → nat_eq n n ≡ true
same-number n = grind (arith, nat_tests)

same-bytes : (bytes : List ℕ) → pointwise nat_eq bytes bytes ≡ true
same-bytes [] = refl
same-bytes (n ∷ bytes) = ap (λ b. nat_eq n n && b) (same-bytes bytes) ∙ ap (λ b. b && true) (same-number n)

one-number : (m n : ℕ) → nat_eq m n ≡ true → m ≡ n
one-number m n is = grind (arith, nat_tests)

-- eight bytes that write one number are the same
pub one-text : (a b : List ℕ) → length a ≡ 8 → ((i : ℕ) → get_or a i 0 < 256) → length b ≡ 8 → ((i : ℕ) → get_or b i 0 < 256)
    → nat_eq (from_le_bytes w64 a) (from_le_bytes w64 b) ≡ pointwise nat_eq a b
one-text a b eight small other low =
    let m = from_le_bytes w64 a in
    let n = from_le_bytes w64 b in
    elim (nat_eq m n) as (λ t. nat_eq m n ≡ t → t ≡ pointwise nat_eq a b) [
      | true ↦ λ is.
          let same : a ≡ b = sym (le_bytes_8 a m eight small refl) ∙ le_bytes_8 b m other low (one-number m n is) in
          sym (same-bytes a) ∙ ap (λ text. pointwise nat_eq a text) same
      | false ↦ λ isnt. elim (pointwise nat_eq a b) as (λ t. pointwise nat_eq a b ≡ t → false ≡ t) [
        | true ↦ λ is. sym isnt ∙ ap (λ text. nat_eq m (from_le_bytes w64 text)) (sym (same_text a b (sym is))) ∙ same-number m
        | false ↦ λ is. refl
      ] refl
    ] refl
