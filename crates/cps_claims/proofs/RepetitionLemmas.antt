-- A text that begins with a word, letter after letter.
use Rattle.std.proofs.Common.{◌≡◌, ℕ, ◌&&◌, Bool, true, false, List, [], ◌∷◌, refl, ap}
use Rattle.std.specs.List.{starts_with}

abbrev pub begins : (ℕ → ℕ → Bool) → List ℕ → List ℕ → Bool
begins same [] text = true
begins same (letter ∷ word) [] = false
begins same (letter ∷ word) (byte ∷ text) = same letter byte && begins same word text

pub begins-all : (same : ℕ → ℕ → Bool) (text word : List ℕ) → starts_with same text word ≡ begins same word text
begins-all same text [] = refl
begins-all same [] (letter ∷ word) = refl
begins-all same (byte ∷ text) (letter ∷ word) = ap (λ b. same letter byte && b) (begins-all same text word)
