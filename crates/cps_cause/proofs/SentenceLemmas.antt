-- A text in which `?` stands in the place of each control character.
use Rattle.std.proofs.Common.{◌≡◌, ℕ, ◌+◌, true, false, not, Bool, List, [], ◌∷◌, ◌++◌, refl, ap, ◌∙◌}
use Rattle.std.proofs.lemmas.Bool.{cond-true, cond-false, and_from}
use Rattle.std.proofs.lemmas.List.Folds.{list_all-append}
use Rattle.cps_input.specs.Shown.{has_no_control, is_control}
use Rattle.cps_cause.specs.Sentence.{cleaned, cleaned_byte}

safe-byte : (byte : ℕ) (is : Bool) → is_control byte ≡ is → not (is_control (cleaned_byte byte)) ≡ true
safe-byte byte true test = ap (λ c. not (is_control c)) (cond-true _ _ _ test)
safe-byte byte false test = ap (λ c. not (is_control c)) (cond-false _ _ _ test) ∙ ap not test

safe : (text : List ℕ) → has_no_control (cleaned text) ≡ true
safe [] = refl
safe (byte ∷ text) = and_from _ _ (safe-byte byte (is_control byte) refl) (safe text)

-- none comes in behind a text without any
pub safe-behind : (text more : List ℕ) → has_no_control text ≡ true → has_no_control (text ++ cleaned more) ≡ true
safe-behind text more none = list_all-append (λ byte. not (is_control byte)) text (cleaned more) ∙ and_from _ _ none (safe more)
