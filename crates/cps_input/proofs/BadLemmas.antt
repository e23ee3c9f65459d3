-- The first byte of a text that no line may have.
use Rattle.std.proofs.Common.{◌≡◌, ℕ, suc, ◌+◌, Bool, true, false, cond, not, List, [], ◌∷◌, ◌++◌, length, get_or, take, drop, None, Some, refl, sym, ap, subst, ◌∙◌, arith, length-take}
use Rattle.std.specs.List.{position, position_or_len}
use Rattle.std.proofs.lemmas.List.{take_all, take-append-drop, drop_more}
use Rattle.std.proofs.lemmas.List.Quantifiers.{position-Some}
use Rattle.std.proofs.lemmas.Grind.{common_steps}
use Rattle.cps_text.specs.Line.{HasBadCharacter, all_accepted, is_accepted_byte}
use Rattle.cps_text.proofs.PlaceLemmas.{position_or_len-none}
use Rattle.cps_input.specs.Sources.{IsFirstBad}
use Rattle.cps_input.proofs.SplitLemmas.{both}

abbrev is_bad : ℕ → Bool
is_bad byte = not (is_accepted_byte byte)

true_of : (a : Bool) → not (not a) ≡ true → a ≡ true
true_of true is = refl
true_of false is = cc

false_of : (a : Bool) → not a ≡ true → a ≡ false
false_of true is = cc
false_of false is = refl

accepted_front : (byte : ℕ) (bytes : List ℕ) (test : Bool) → not (is_bad byte) ≡ test → all_accepted (take (position_or_len is_bad bytes) bytes) ≡ true
    → all_accepted (take (cond test (1 + position_or_len is_bad bytes) 0) (byte ∷ bytes)) ≡ true
accepted_front byte bytes true is later =
    let len = position_or_len is_bad bytes in
    let next : suc len ≡ 1 + len = omega arith in
    subst (λ n. all_accepted (take n (byte ∷ bytes)) ≡ true) next (both (is_accepted_byte byte) (all_accepted (take len bytes)) (true_of (is_accepted_byte byte) is) later)
accepted_front byte bytes false is later = refl

accepted_before : (text : List ℕ) → all_accepted (take (position_or_len is_bad text) text) ≡ true
accepted_before [] = refl
accepted_before (byte ∷ bytes) = accepted_front byte bytes (not (is_bad byte)) refl (accepted_before bytes)

-- the first stands behind so many bytes
pub first_bad_at : (text : List ℕ) (before : ℕ) → Some before ≡ position is_bad text → IsFirstBad text (before + 1)
first_bad_at text before is =
    let at : position_or_len is_bad text ≡ before = grind (arith, common_steps) in
    let found = position-Some is_bad text before 0 (sym is) in record {
      front = take before text;
      byte = get_or text before 0;
      back = drop (before + 1) text;
      whole = sym (take-append-drop before text) ∙ ap (λ b. take before text ++ b) (drop_more text before 0 found.0);
      before = subst (λ n. all_accepted (take n text) ≡ true) at (accepted_before text);
      bad = false_of (is_accepted_byte (get_or text before 0)) found.1;
      place = let inside = found.0 in omega (arith, length-take before text);
    }

-- a text with a bad character has a first one
pub some_bad : (text : List ℕ) → HasBadCharacter text → None ≡ position is_bad text → ⊥
some_bad text has none =
    let all = position_or_len-none is_bad text none in
    let accepted : all_accepted text ≡ true =
    subst (λ b. all_accepted b ≡ true) (ap (λ n. take n text) (sym all) ∙ take_all (length text) text (omega arith)) (accepted_before text) in
    let bad = has.bad in
    cc
