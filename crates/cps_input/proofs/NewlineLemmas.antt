-- The first newline of a text, as it is searched for.
use Rattle.std.proofs.Common.{◌≡◌, ℕ, zero, suc, ◌+◌, ◌<◌, Bool, true, false, cond, not, List, [], ◌∷◌, length, Option, None, Some, refl, sym, ap, ◌∙◌, arith}
use Rattle.std.specs.Prelude.{◌==◌, IfSome, nat_lt, slice_index}
use Rattle.std.specs.List.{position, position_or_len}
use Rattle.std.proofs.lemmas.Bool.Decides.{nat_tests}
use Rattle.memchr.specs.Find.{IsFirstByte, is_byte}
use Rattle.cps_input.specs.Lines.{newline}

abbrev is_newline : ℕ → Bool
is_newline byte = byte == newline

not-true : (t : Bool) → ¬ (t ≡ true) → t ≡ false
not-true true other = absurd (other refl)
not-true false other = refl

one-more : (n : ℕ) → 1 + n ≡ suc n
one-more n = omega arith

-- the first that passes stands behind all that don't
len-first : (bytes : List ℕ) (k : ℕ) → k < length bytes → is_newline (slice_index bytes k) ≡ true
    → ((j : ℕ) → j < k → ¬ (is_newline (slice_index bytes j) ≡ true)) → position_or_len is_newline bytes ≡ k
len-first [] k lt is before = absurd (omega (arith, lt))
len-first (b ∷ bytes) zero lt is before = ap (λ t. cond (not t) (1 + position_or_len is_newline bytes) 0) is
len-first (b ∷ bytes) (suc k) lt is before =
    ap (λ t. cond (not t) (1 + position_or_len is_newline bytes) 0) (not-true (is_newline b) (before 0 (omega (arith, lt))))
    ∙ ap (λ n. 1 + n) (len-first bytes k (omega (arith, lt)) is (λ j less. before (suc j) (omega (arith, less)))) ∙ one-more k

len-none : (bytes : List ℕ) → ((j : ℕ) → j < length bytes → ¬ (is_newline (slice_index bytes j) ≡ true)) → position_or_len is_newline bytes ≡ length bytes
len-none [] none = refl
len-none (b ∷ bytes) none =
    ap (λ t. cond (not t) (1 + position_or_len is_newline bytes) 0) (not-true (is_newline b) (none 0 (omega arith)))
    ∙ ap (λ n. 1 + n) (len-none bytes (λ j less. none (suc j) (omega (arith, less)))) ∙ one-more (length bytes)

pub first-within : (bytes : List ℕ) (r : Option ℕ) → IsFirstByte (is_byte newline) bytes r → IfSome r (λ at. at < length bytes)
first-within bytes None first = tt
first-within bytes (Some at) first = first.0.high

pub first-place : (bytes : List ℕ) (r : Option ℕ) → IsFirstByte (is_byte newline) bytes r → r ≡ position is_newline bytes
first-place bytes None first =
    let past : nat_lt (length bytes) (length bytes) ≡ false = grind (arith, nat_tests) in
    sym (ap (λ n. cond (nat_lt n (length bytes)) (Some n) None) (len-none bytes (λ j less. first j (omega arith) less)) ∙ ap (λ t. cond t (Some (length bytes)) None) past)
first-place bytes (Some at) first =
    let high = first.0.high in
    let within : nat_lt at (length bytes) ≡ true = grind (arith, nat_tests) in
    sym (ap (λ n. cond (nat_lt n (length bytes)) (Some n) None) (len-first bytes at high first.1 (λ j less. first.0.before j (omega arith) less)) ∙ ap (λ t. cond t (Some at) None) within)
