-- Reading a number digit by digit.
use Rattle.std.proofs.Common.{◌≡◌, ℕ, zero, suc, ◌+◌, ◌<◌, Bool, true, false, cond, ◌&&◌, ltb, List, [], ◌∷◌, length, get_or, take, None, Some, refl, ◌⊎◌, inl, inr, ⊎_elim, arith}
use Rattle.std.specs.List.{list_all}
use Rattle.std.proofs.lemmas.Bool.Decides.{nat_tests}
use Rattle.std.proofs.lemmas.List.Sums.{fold_more}
use Rattle.cps_text.specs.Text.{is_digit}
use Rattle.cps_text.specs.Digits.{with_digit, digits_number}
use Rattle.cps_text.proofs.DigitsLemmas.{fold-take}
use Rattle.cps_expr.specs.Number.{number_in}

and_false : (b : Bool) → (b && false) ≡ false
and_false true = refl
and_false false = refl

fails : (p : ℕ → Bool) (xs : List ℕ) (i : ℕ) → i < length xs → p (get_or xs i 0) ≡ false → list_all p xs ≡ false
fails p [] i within bad = absurd (omega arith)
fails p (x ∷ xs) zero within bad = rw bad refl
fails p (x ∷ xs) (suc i) within bad = rw (fails p xs i (omega arith) bad) (and_false (p x))

none_of : (some all small : Bool) (number : ℕ) → (all ≡ false) ⊎ (small ≡ false) → None ≡ cond (some && (all && small)) (Some number) None
none_of true true true number why = absurd (⊎_elim (λ (h : true ≡ false). cc) (λ (h : true ≡ false). cc) why)
none_of true true false number why = refl
none_of true false small number why = refl
none_of false all small number why = refl

-- a digit that is none, or one too many
pub number_in-none : (greatest base : ℕ) (digits : List ℕ) (i : ℕ) → 0 < base → i < length digits
    → (is_digit base (get_or digits i 0) ≡ false) ⊎ (greatest < with_digit base (digits_number base (take i digits)) (get_or digits i 0))
    → None ≡ number_in (greatest + 1) base digits
number_in-none greatest base digits i some within why =
    none_of (ltb 0 (length digits)) (list_all (is_digit base) digits) (ltb (digits_number base digits) (greatest + 1)) (digits_number base digits)
    (⊎_elim
    (λ (bad : is_digit base (get_or digits i 0) ≡ false). inl (fails (is_digit base) digits i within bad))
    (λ (large : greatest < with_digit base (digits_number base (take i digits)) (get_or digits i 0)).
    let more = fold_more (with_digit base) 0 digits i 0 within in
    let front = fold-take base 0 digits (i + 1) some in
    inr (grind (arith, nat_tests)))
    why)
