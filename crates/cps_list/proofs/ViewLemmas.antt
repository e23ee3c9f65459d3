-- The next line of a view.
use Rattle.std.proofs.Common.{◌≡◌, ℕ, zero, suc, ◌+◌, ◌-◌, refl, sym, ap, subst, ◌∙◌, List, [], ◌∷◌, ◌++◌, append_assoc, length, drop, take, arith}
use Rattle.std.specs.Prelude.{slice_get, Some}
use Rattle.std.proofs.lemmas.Option.{same_Some}
use Rattle.cps_final.specs.Outcome.{Outcome}
use Rattle.cps_list.specs.declared.mention.Mention.{Mention}
use Rattle.cps_list.specs.Code.Making.{Printout, IsPrintoutOf}
use Rattle.cps_list.specs.Symbols.{mentions_from, mentions_on}

-- the element at a place, with those after it and those before
pub drop-next : {A : Type 0} (xs : List A) (i : ℕ) (x : A) → slice_get xs i ≡ Some x → drop i xs ≡ x ∷ drop (suc i) xs
drop-next [] i x is = cc
drop-next (y ∷ xs) zero x is = ap (λ e. e ∷ xs) (same_Some y x is)
drop-next (y ∷ xs) (suc i) x is = drop-next xs i x is

pub take-next : {A : Type 0} (xs : List A) (i : ℕ) (x : A) → slice_get xs i ≡ Some x → take (suc i) xs ≡ take i xs ++ x ∷ []
take-next [] i x is = cc
take-next (y ∷ xs) zero x is = ap (λ e. e ∷ []) (same_Some y x is)
take-next (y ∷ xs) (suc i) x is = ap (λ l. y ∷ l) (take-next xs i x is)

next : (i : ℕ) → i + 1 ≡ suc i
next i = omega arith

taken-length : {A : Type 0} (xs : List A) (i : ℕ) (x : A) → slice_get xs i ≡ Some x → i ≡ length (take i xs)
taken-length [] i x is = cc
taken-length (y ∷ xs) zero x is = refl
taken-length (y ∷ xs) (suc i) x is = ap suc (taken-length xs i x is)

-- the number of the next line
pub number-next : {A : Type 0} (xs : List A) (i : ℕ) (x : A) → slice_get xs (i + 1 - 1) ≡ Some x → i + 1 ≡ length (take i xs) + 1
number-next xs i x is =
    let here : i + 1 - 1 ≡ i = omega arith in
    ap (λ n. n + 1) (taken-length xs i x (ap (slice_get xs) (sym here) ∙ is))

-- what is made of the lines so far, and the next
pub printout-next : (lines : List (List ℕ)) (outcomes : List Outcome) (i : ℕ) (line bytes : List ℕ) (outcome : Outcome) (printout : Printout) → slice_get lines (i + 1 - 1) ≡ Some line
    → slice_get outcomes (i + 1 - 1) ≡ Some outcome → bytes ≡ line → IsPrintoutOf (take i lines ++ bytes ∷ []) (take i outcomes ++ outcome ∷ []) printout
    → IsPrintoutOf (take (i + 1) lines) (take (i + 1) outcomes) printout
printout-next lines outcomes i line bytes outcome printout line-is outcome-is same so =
    let here : i + 1 - 1 ≡ i = omega arith in
    let all : take i lines ++ bytes ∷ [] ≡ take (i + 1) lines =
    ap (λ l. take i lines ++ l ∷ []) same ∙ sym (take-next lines i line (ap (slice_get lines) (sym here) ∙ line-is)) ∙ ap (λ n. take n lines) (sym (next i)) in
    let made : take i outcomes ++ outcome ∷ [] ≡ take (i + 1) outcomes =
    sym (take-next outcomes i outcome (ap (slice_get outcomes) (sym here) ∙ outcome-is)) ∙ ap (λ n. take n outcomes) (sym (next i)) in
    subst (λ ls. IsPrintoutOf ls (take (i + 1) outcomes) printout) all (subst (λ os. IsPrintoutOf (take i lines ++ bytes ∷ []) os printout) made so)

module _ (outcomes : List Outcome) (i : ℕ) (outcome : Outcome) (is : slice_get outcomes (i + 1 - 1) ≡ Some outcome) where
  same-place : i + 1 - 1 ≡ i
  same-place = omega arith

  there : slice_get outcomes i ≡ Some outcome
  there = ap (slice_get outcomes) (sym same-place) ∙ is

  behind-next : drop i outcomes ≡ outcome ∷ drop (i + 1) outcomes
  behind-next = drop-next outcomes i outcome there ∙ ap (λ n. outcome ∷ drop n outcomes) (sym (next i))

  -- its symbols
  pub mentions-next : (old new : List Mention) → new ≡ old ++ mentions_on (i + 1) outcome.defined outcome.read
      → new ++ mentions_from (i + 1 + 1) (drop (i + 1) outcomes) ≡ old ++ mentions_from (i + 1) (drop i outcomes)
  mentions-next old new pushed =
      ap (λ ms. ms ++ mentions_from (i + 1 + 1) (drop (i + 1) outcomes)) pushed
      ∙ append_assoc old (mentions_on (i + 1) outcome.defined outcome.read) _
      ∙ sym (ap (λ os. old ++ mentions_from (i + 1) os) behind-next)
