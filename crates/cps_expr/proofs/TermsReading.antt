-- Reading an expression term by term.
use Rattle.std.proofs.Common.{◌≡◌, ℕ, zero, suc, ◌<◌, ◌≤◌, Bool, true, false, List, [], ◌∷◌, ◌++◌, length, get_or, take, drop, Option, None, Some, ◌⊎◌, ⊎_elim, refl, sym, ap, ◌∙◌, arith}
use Rattle.std.specs.Prelude.{option_map, is_none, is_some, IfSome, MatchOption}
use Rattle.cps_expr.specs.declared.radix.Radix.{Radix}
use Rattle.cps_expr.specs.OperandList.{with_first}
use Rattle.cps_expr.specs.Term.{Term, term_of}
use Rattle.cps_expr.specs.Expression.{Expression, is_sign, onto_first, cut_at_signs, terms_of}
use Rattle.cps_expr.specs.Code.TermsLeft.{sign_of, terms_left, terms_behind}
use Rattle.cps_expr.proofs.JoinLemmas.{joined, joined-more, readable-more}
use Rattle.cps_expr.proofs.Choices.{chosen_first, chosen_second}

-- the texts behind the first one
abbrev pub later_texts : List ℕ → List (List ℕ)
later_texts [] = []
later_texts (sign ∷ text) = onto_first sign (cut_at_signs text)

-- `n` is the place of the first sign
pub record IsSignAt (text : List ℕ) (n : ℕ) : Type 0 where
  pub within : n ≤ length text
  pub before : (k : ℕ) → k < n → is_sign (get_or text k 0) ≡ false
  pub found : n < length text → is_sign (get_or text n 0) ≡ true

pub cut-at : (n : ℕ) (text : List ℕ) → IsSignAt text n → cut_at_signs text ≡ take n text ∷ later_texts (drop n text)
cut-at zero [] at = refl
cut-at zero (c ∷ text) at = chosen_first (is_sign c) ([] ∷ onto_first c (cut_at_signs text)) (onto_first c (cut_at_signs text)) (at.found (omega arith))
cut-at (suc n) [] at = let within = at.within in absurd (omega arith)
cut-at (suc n) (c ∷ text) at =
    let within = at.within in
    chosen_second (is_sign c) ([] ∷ onto_first c (cut_at_signs text)) (onto_first c (cut_at_signs text)) (at.before 0 (omega arith))
    ∙ ap (onto_first c) (cut-at n text (record {
      within = omega arith;
      before = λ k low. at.before (suc k) (omega arith);
      found = λ h. at.found (omega arith);
    }))

-- the first term, and the terms behind it
left-cut : (radix : Radix) (minus : Bool) (n : ℕ) (text : List ℕ) → IsSignAt text n
    → terms_left radix minus text ≡ with_first (term_of radix minus (take n text)) (terms_of radix (later_texts (drop n text)))
left-cut radix true n text at = rw (cut-at n text at) refl
left-cut radix false n text at = rw (cut-at n text at) refl

-- behind the first term stands a sign, or nothing
sign-behind : (n : ℕ) (text : List ℕ) → IsSignAt text n → 0 < length (drop n text) → is_sign (get_or (drop n text) 0 0) ≡ true
sign-behind zero text at some = at.found some
sign-behind (suc n) [] at some = absurd (omega arith)
sign-behind (suc n) (c ∷ text) at some =
    let within = at.within in
    sign-behind n text (record { within = omega arith; before = λ k low. at.before (suc k) (omega arith); found = λ h. at.found (omega arith) }) some

behind : {R : Type 0} (radix : Radix) (now : R → List ℕ) (left : List ℕ) (later : Option (Bool × R)) → (0 < length left → is_sign (get_or left 0 0) ≡ true)
    → MatchOption later ((left ≡ []) ⊎ (is_sign (get_or left 0 0) ≡ false)) (λ rest. left ≡ sign_of rest.0 ∷ now rest.1)
    → terms_of radix (later_texts left) ≡ terms_behind radix (option_map (λ rest. (rest.0, now rest.1)) later)
behind radix now [] None found is = refl
behind radix now (c ∷ left) None found is = let here = found (omega arith) in absurd (⊎_elim (λ (none : c ∷ left ≡ []). cc) (λ (no : is_sign c ≡ false). cc) is)
behind radix now left (Some rest) found is = ap (λ texts. terms_of radix (later_texts texts)) is

pub left-first : {R : Type 0} (radix : Radix) (minus : Bool) (now : R → List ℕ) (n : ℕ) (text : List ℕ) (later : Option (Bool × R)) → IsSignAt text n
    → MatchOption later ((drop n text ≡ []) ⊎ (is_sign (get_or (drop n text) 0 0) ≡ false)) (λ rest. drop n text ≡ sign_of rest.0 ∷ now rest.1)
    → terms_left radix minus text ≡ with_first (term_of radix minus (take n text)) (terms_behind radix (option_map (λ rest. (rest.0, now rest.1)) later))
left-first radix minus now n text later at is =
    left-cut radix minus n text at ∙ ap (with_first (term_of radix minus (take n text))) (behind radix now (drop n text) later (sign-behind n text at) is)

-- one term more
pub next-term : (left whole : Option Expression) (found : Option Term) (rest : Option Expression) (so_far next : Expression) (old new : Bool)
    → left ≡ with_first found rest → is_some found ≡ true → (new ≡ false → (old ≡ false) × IfSome found (λ term. next ≡ so_far ++ term ∷ []))
    → is_none left ≡ is_none whole → (old ≡ false → joined so_far left ≡ whole)
    → (is_none rest ≡ is_none whole) × (new ≡ false → joined next rest ≡ whole)
next-term left whole None rest so_far next old new is some added readable expression = cc
next-term left whole (Some term) rest so_far next old new is some added readable expression = (
  sym (readable-more term rest) ∙ sym (ap is_none is) ∙ readable,
  λ ok. let a = added ok in ap (λ terms. joined terms rest) a.1 ∙ sym (joined-more so_far term rest) ∙ sym (ap (joined so_far) is) ∙ expression a.0,
)

pub not_none : {X : Type 0} (found : Option X) → is_none found ≡ false → found ≡ None → ⊥
not_none None is none = cc
not_none (Some x) is none = cc
