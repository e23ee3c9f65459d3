-- Words, appended in two parts.
use Rattle.std.proofs.Common.{◌≡◌, ℕ, List, ◌++◌, sym, ap, ◌∙◌, append_assoc}
use Rattle.std.specs.Prelude.{codes}
use Rattle.std.proofs.lemmas.Bool.{cond-false, ne_eqb}
use Rattle.cps_input.specs.Words.{byte_text, character_text, character_words, is_none, stray_words}

pub other-words : (text : List ℕ) (c : ℕ) → (c ≡ 9 → ⊥) → (c ≡ 13 → ⊥) → (text ++ character_text c) ++ is_none ≡ text ++ character_words c
other-words text c tab return =
    append_assoc text (character_text c) is_none
    ∙ ap (λ words. text ++ words) (sym (cond-false _ _ _ (ne_eqb c 9 tab) ∙ cond-false _ _ _ (ne_eqb c 13 return)))

pub stray-words : (text : List ℕ) (byte : ℕ) → (text ++ byte_text byte) ++ (is_none ++ codes ", and no UTF-8") ≡ text ++ stray_words byte
stray-words text byte =
    append_assoc text (byte_text byte) (is_none ++ codes ", and no UTF-8")
    ∙ ap (λ words. text ++ words) (sym (append_assoc (byte_text byte) is_none (codes ", and no UTF-8")))
