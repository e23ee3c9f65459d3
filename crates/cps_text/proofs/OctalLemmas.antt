-- Octal digits, two after two.
use Rattle.std.proofs.Common.{◌≡◌, ℕ, zero, suc, ◌+◌, ◌-◌, ◌/◌, ◌%◌, ◌≤◌, List, [], ◌∷◌, ◌++◌, length, drop, set, refl, arith, append_assoc}
use Rattle.cps_text.specs.Octal.{octal}

-- two digits more are written, behind those that are left
pub octal-pair : (digits written : List ℕ) (place number : ℕ) → 2 ≤ place
    → drop (place - 2) written ≡ (48 + number % 64 / 8) ∷ (48 + number % 64 % 8) ∷ drop (place - 2 + 2) digits
    → octal (place - 2) (number / 64) ++ drop (place - 2) written ≡ octal place number ++ drop place digits
unfolding octal
octal-pair digits written zero number two are = absurd (omega arith)
octal-pair digits written (suc zero) number two are = absurd (omega arith)
octal-pair digits written (suc (suc place)) number two are =
    let same : suc (suc place) - 2 ≡ place = omega arith in
    let next : suc (suc place) - 2 + 2 ≡ suc (suc place) = omega arith in
    let left : number / 64 ≡ number / 8 / 8 = omega arith in
    let first : number % 64 / 8 ≡ number / 8 % 8 = omega arith in
    let second : number % 64 % 8 ≡ number % 8 = omega arith in
    rw (are, next, same, left, first, second, append_assoc, append_assoc) refl

-- one digit is left
pub octal-one : (digits whole : List ℕ) (place number : ℕ) → place ≡ 1 → place ≤ length digits → octal place number ++ drop place digits ≡ whole → set digits 0 (48 + number % 8) ≡ whole
unfolding octal
octal-one [] whole place number one within is = absurd (omega arith)
octal-one (d ∷ digits) whole zero number one within is = absurd (omega arith)
octal-one (d ∷ digits) whole (suc zero) number one within is = is
octal-one (d ∷ digits) whole (suc (suc place)) number one within is = absurd (omega arith)

-- none is left
pub octal-whole : (digits whole : List ℕ) (place number : ℕ) → place ≡ 0 → octal place number ++ drop place digits ≡ whole → digits ≡ whole
unfolding octal
octal-whole digits whole zero number none is = is
octal-whole digits whole (suc place) number none is = absurd (omega arith)
