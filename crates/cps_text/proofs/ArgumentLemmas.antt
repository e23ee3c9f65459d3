-- Parentheses that are closed before a text ends.
use Rattle.std.proofs.Common.{◌≡◌, ℕ, zero, suc, ◌<◌, false, List, [], ◌∷◌, length, drop, refl, arith, length-drop}
use Rattle.cps_text.specs.Arguments.{are_inside, depths}

closed_first : (depth : ℕ) (text : List ℕ) → depth ≡ 0 → 0 < length text → are_inside (depths depth text) ≡ false
closed_first zero [] none some = absurd (omega arith)
closed_first zero (character ∷ text) none some = refl
closed_first (suc depth) text none some = absurd (omega arith)

pub closed_inside : (depth i : ℕ) (text : List ℕ) → depth ≡ 0 → i < length text → are_inside (depths depth (drop i text)) ≡ false
closed_inside depth i text none within = closed_first depth (drop i text) none (omega (arith, length-drop i text))
