-- Hexadecimal digits, one after another.
use Rattle.std.proofs.Common.{◌≡◌, ℕ, zero, suc, ◌-◌, ◌/◌, ◌%◌, ◌<◌, List, [], ◌∷◌, ◌++◌, sym, ap, ◌∙◌, arith, append_assoc, append-nil}
use Rattle.cps_input.specs.Hex.{hex, hex_digit}

pub hex-none : (text : List ℕ) (digits number : ℕ) → digits ≡ 0 → text ≡ text ++ hex digits number
unfolding hex
hex-none text zero number none = sym (append-nil text)
hex-none text (suc digits) number none = absurd (omega arith)

hex-more : (text : List ℕ) (digits number : ℕ) → 0 < digits
    → (text ++ hex (digits - 1) (number / 16)) ++ hex_digit (number % 16) ∷ [] ≡ text ++ hex digits number
unfolding hex
hex-more text zero number some = absurd (omega arith)
hex-more text (suc digits) number some =
    let same : suc digits - 1 ≡ digits = omega arith in
    rw same (append_assoc text (hex digits (number / 16)) (hex_digit (number % 16) ∷ []))

-- one digit more, behind the others
pub hex-push : (text front whole : List ℕ) (digits number digit : ℕ) → 0 < digits → front ≡ text ++ hex (digits - 1) (number / 16)
    → digit ≡ hex_digit (number % 16) → whole ≡ front ++ digit ∷ [] → whole ≡ text ++ hex digits number
hex-push text front whole digits number digit some before last all =
    all ∙ ap (λ f. f ++ digit ∷ []) before ∙ ap (λ d. (text ++ hex (digits - 1) (number / 16)) ++ d ∷ []) last ∙ hex-more text digits number some
