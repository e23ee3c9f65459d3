-- What is in the grammar is read.
use Rattle.std.proofs.Common.{◌≡◌, ℕ, ◌<◌, Bool, true, false, List, [], ◌∷◌, ◌++◌, length, drop, Option, None, Some, inl, inr, refl, sym, ap, ◌∙◌, subst, arith}
use Rattle.std.specs.Prelude.{option_map, option_and_then}
use Rattle.cps_expr.specs.declared.radix.Radix.{Radix}
use Rattle.cps_expr.specs.declared.term.Element.{Element}
use Rattle.cps_expr.specs.declared.term.Operator.{Operator}
use Rattle.cps_expr.specs.declared.term.Operator.TheVariants.{Times, Over}
use Rattle.cps_expr.specs.declared.term.Factor.{Factor}
use Rattle.cps_expr.specs.Term.{Term, is_operator, onto_token, tokens_of, element_of, operator_of, factors_of, term_with, term_of_tokens, term_of}
use Rattle.cps_expr.specs.Expression.{Expression, is_sign, is_minus, onto_first, cut_at_signs, with_first_sign, terms_of, signed_texts}
use Rattle.cps_expr.specs.Code.TermsLeft.{sign_of}
use Rattle.cps_expr.specs.Grammar.{operator_text, WriteFactors, WritesTerm, sign_text, WriteTerms, Writes}
use Rattle.cps_expr.proofs.ElementTexts.{Plain, ElementText, element-complete}
use Rattle.cps_expr.proofs.Choices.{chosen_first, chosen_second}

-- ---- tokens

abbrev OperatorFirst : List ℕ → Type 0
OperatorFirst [] = Unit {0}
OperatorFirst (c ∷ text) = is_operator c ≡ true

run-tokens : (c : ℕ) (run rest : List ℕ) → Plain (c ∷ run) → OperatorFirst rest → tokens_of (c ∷ (run ++ rest)) ≡ (c ∷ run) ∷ tokens_of rest
run-tokens c [] [] plain first = chosen_second (is_operator c) ((c ∷ []) ∷ []) ((c ∷ []) ∷ []) plain.0.0
run-tokens c [] (d ∷ rest) plain first =
    let next : tokens_of (d ∷ rest) ≡ (d ∷ []) ∷ tokens_of rest = chosen_first (is_operator d) ((d ∷ []) ∷ tokens_of rest) (onto_token d (tokens_of rest)) first in
    chosen_second (is_operator c) ((c ∷ []) ∷ tokens_of (d ∷ rest)) (onto_token c (tokens_of (d ∷ rest))) plain.0.0
    ∙ ap (onto_token c) next
    ∙ chosen_first (is_operator d) ((c ∷ []) ∷ (d ∷ []) ∷ tokens_of rest) ((c ∷ d ∷ []) ∷ tokens_of rest) first
    ∙ ap (λ tokens. (c ∷ []) ∷ tokens) (sym next)
run-tokens c (d ∷ run) rest plain first =
    chosen_second (is_operator c) ((c ∷ []) ∷ tokens_of (d ∷ (run ++ rest))) (onto_token c (tokens_of (d ∷ (run ++ rest)))) plain.0.0
    ∙ ap (onto_token c) (run-tokens d run rest plain.1 first)
    ∙ chosen_second (is_operator d) ((c ∷ []) ∷ (d ∷ run) ∷ tokens_of rest) ((c ∷ d ∷ run) ∷ tokens_of rest) plain.1.0.0

plain-tokens : (text rest : List ℕ) → Plain text → 0 < length text → OperatorFirst rest → tokens_of (text ++ rest) ≡ text ∷ tokens_of rest
plain-tokens [] rest plain some first = absurd (omega arith)
plain-tokens (c ∷ text) rest plain some first = run-tokens c text rest plain first

element-tokens : (text rest : List ℕ) → ElementText text → OperatorFirst rest → tokens_of (text ++ rest) ≡ text ∷ tokens_of rest
element-tokens text rest (inl is) first =
    let P : List ℕ → Type 0 = λ t. tokens_of (t ++ rest) ≡ t ∷ tokens_of rest in
    subst P (sym is) refl
element-tokens text rest (inr plain) first = plain-tokens text rest plain.0 plain.1 first

operator-tokens : (operator : Operator) (rest : List ℕ) → tokens_of (operator_text operator ++ rest) ≡ operator_text operator ∷ tokens_of rest
operator-tokens Times rest = refl
operator-tokens Over rest = refl

operator-first : (operator : Operator) (rest : List ℕ) → OperatorFirst (operator_text operator ++ rest)
operator-first Times rest = refl
operator-first Over rest = refl

operator-complete : (operator : Operator) → operator_of (operator_text operator) ≡ Some operator
operator-complete Times = refl
operator-complete Over = refl

factors-first : (radix : Radix) (text : List ℕ) (factors : List Factor) → WriteFactors radix text factors → OperatorFirst text
factors-first radix text [] is = let P : List ℕ → Type 0 = λ t. OperatorFirst t in subst P (sym is) tt
factors-first radix text (factor ∷ factors) parts = let P : List ℕ → Type 0 = λ t. OperatorFirst t in subst P (sym parts.2) (operator-first factor.operator (parts.0 ++ parts.1))

-- ---- terms

factor-joined : (operator : Option Operator) (element : Option Element) (factor : Factor) → operator ≡ Some factor.operator → element ≡ Some factor.element
    → option_and_then (λ o. option_map (λ e. record { operator = o; element = e }) element) operator ≡ Some factor
factor-joined operator element factor first second = rw (first, second) refl

front-joined : {X : Type 0} (first : Option X) (rest : Option (List X)) (x : X) (xs : List X) → first ≡ Some x → rest ≡ Some xs
    → option_and_then (λ y. option_map (λ ys. y ∷ ys) rest) first ≡ Some (x ∷ xs)
front-joined first rest x xs is more = rw (is, more) refl

factors-complete : (radix : Radix) (text : List ℕ) (factors : List Factor) → WriteFactors radix text factors → factors_of radix (tokens_of text) ≡ Some factors
factors-complete radix text [] is = ap (λ t. factors_of radix (tokens_of t)) is
factors-complete radix text (factor ∷ factors) parts =
    let element = element-complete radix parts.0 factor.element parts.3 in
    ap (λ t. factors_of radix (tokens_of t)) parts.2
    ∙ ap (factors_of radix) (operator-tokens factor.operator (parts.0 ++ parts.1))
    ∙ ap (λ tokens. factors_of radix (operator_text factor.operator ∷ tokens)) (element-tokens parts.0 parts.1 element.1 (factors-first radix parts.1 factors parts.4))
    ∙ front-joined _ (factors_of radix (tokens_of parts.1)) factor factors
    (factor-joined (operator_of (operator_text factor.operator)) (element_of radix parts.0) factor (operator-complete factor.operator) element.0)
    (factors-complete radix parts.1 factors parts.4)

term-joined : (first : Option Element) (factors : Option (List Factor)) (term : Term) → first ≡ Some term.first → factors ≡ Some term.factors → term_with term.is_minus first factors ≡ Some term
term-joined first factors term is more = rw (is, more) refl

pub term-complete : (radix : Radix) (text : List ℕ) (term : Term) → WritesTerm radix text term → term_of radix term.is_minus text ≡ Some term
term-complete radix text term parts =
    let element = element-complete radix parts.0 term.first parts.3 in
    ap (term_of radix term.is_minus) parts.2
    ∙ ap (term_of_tokens radix term.is_minus) (element-tokens parts.0 parts.1 element.1 (factors-first radix parts.1 term.factors parts.4))
    ∙ term-joined (element_of radix parts.0) (factors_of radix (tokens_of parts.1)) term element.0 (factors-complete radix parts.1 term.factors parts.4)

-- ---- signs

abbrev SignFree : List ℕ → Type 0
SignFree [] = Unit {0}
SignFree (c ∷ text) = (is_sign c ≡ false) × SignFree text

abbrev SignFirst : List ℕ → Type 0
SignFirst [] = Unit {0}
SignFirst (c ∷ text) = is_sign c ≡ true

free-append : (first rest : List ℕ) → SignFree first → SignFree rest → SignFree (first ++ rest)
free-append [] rest first free = free
free-append (c ∷ first) rest both free = (both.0, free-append first rest both.1 free)

free-plain : (text : List ℕ) → Plain text → SignFree text
free-plain [] plain = tt
free-plain (c ∷ text) plain = (plain.0.1, free-plain text plain.1)

free-element : (text : List ℕ) → ElementText text → SignFree text
free-element text (inl is) = let P : List ℕ → Type 0 = λ t. SignFree t in subst P (sym is) (refl, tt)
free-element text (inr plain) = free-plain text plain.0

free-operator : (operator : Operator) → SignFree (operator_text operator)
free-operator Times = (refl, tt)
free-operator Over = (refl, tt)

free-factors : (radix : Radix) (text : List ℕ) (factors : List Factor) → WriteFactors radix text factors → SignFree text
free-factors radix text [] is = let P : List ℕ → Type 0 = λ t. SignFree t in subst P (sym is) tt
free-factors radix text (factor ∷ factors) parts =
    let P : List ℕ → Type 0 = λ t. SignFree t in
    subst P (sym parts.2)
    (free-append (operator_text factor.operator) (parts.0 ++ parts.1) (free-operator factor.operator)
    (free-append parts.0 parts.1 (free-element parts.0 (element-complete radix parts.0 factor.element parts.3).1) (free-factors radix parts.1 factors parts.4)))

-- a term's text is not empty, and no sign stands in it
abbrev FreeText : List ℕ → Type 0
FreeText [] = ⊥
FreeText (c ∷ text) = (is_sign c ≡ false) × SignFree text

some-free : (first rest : List ℕ) → ElementText first → SignFree rest → FreeText (first ++ rest)
some-free [] rest (inl is) free = absurd cc
some-free [] rest (inr plain) free = absurd (let some = plain.1 in omega arith)
some-free (c ∷ first) rest text free = let front = free-element (c ∷ first) text in (front.0, free-append first rest front.1 free)

term-free : (radix : Radix) (text : List ℕ) (term : Term) → WritesTerm radix text term → FreeText text
term-free radix text term parts =
    let P : List ℕ → Type 0 = λ t. FreeText t in
    subst P (sym parts.2) (some-free parts.0 parts.1 (element-complete radix parts.0 term.first parts.3).1 (free-factors radix parts.1 term.factors parts.4))

cut-free : (text rest : List ℕ) → SignFree text → SignFirst rest → cut_at_signs (text ++ rest) ≡ text ∷ drop 1 (cut_at_signs rest)
cut-free [] [] free first = refl
cut-free [] (c ∷ rest) free first =
    let e : cut_at_signs (c ∷ rest) ≡ [] ∷ onto_first c (cut_at_signs rest) = chosen_first (is_sign c) ([] ∷ onto_first c (cut_at_signs rest)) (onto_first c (cut_at_signs rest)) first in
    e ∙ ap (λ texts. [] ∷ drop 1 texts) (sym e)
cut-free (c ∷ text) rest free first =
    chosen_second (is_sign c) ([] ∷ onto_first c (cut_at_signs (text ++ rest))) (onto_first c (cut_at_signs (text ++ rest))) free.0
    ∙ ap (onto_first c) (cut-free text rest free.1 first)

cut-text : (text rest : List ℕ) → FreeText text → SignFirst rest → cut_at_signs (text ++ rest) ≡ text ∷ drop 1 (cut_at_signs rest)
cut-text [] rest free first = absurd free
cut-text (c ∷ text) rest free first = cut-free (c ∷ text) rest free first

sign-first : (minus : Bool) (rest : List ℕ) → SignFirst (sign_text minus ++ rest)
sign-first true rest = refl
sign-first false rest = refl

terms-first : (radix : Radix) (text : List ℕ) (terms : List Term) → WriteTerms radix text terms → SignFirst text
terms-first radix text [] is = let P : List ℕ → Type 0 = λ t. SignFirst t in subst P (sym is) tt
terms-first radix text (term ∷ terms) parts = let P : List ℕ → Type 0 = λ t. SignFirst t in subst P (sym parts.2) (sign-first term.is_minus (parts.0 ++ parts.1))

cut-signed : (minus : Bool) (rest : List ℕ) → drop 1 (cut_at_signs (sign_text minus ++ rest)) ≡ onto_first (sign_of minus) (cut_at_signs rest)
cut-signed true rest = refl
cut-signed false rest = refl

minus-back : (minus : Bool) → is_minus (sign_of minus) ≡ minus
minus-back true = refl
minus-back false = refl

terms-complete : (radix : Radix) (text : List ℕ) (terms : List Term) → WriteTerms radix text terms → terms_of radix (drop 1 (cut_at_signs text)) ≡ Some terms
terms-complete radix text [] is = ap (λ t. terms_of radix (drop 1 (cut_at_signs t))) is
terms-complete radix text (term ∷ terms) parts =
    ap (λ t. terms_of radix (drop 1 (cut_at_signs t))) parts.2
    ∙ ap (terms_of radix) (cut-signed term.is_minus (parts.0 ++ parts.1))
    ∙ ap (λ texts. terms_of radix (onto_first (sign_of term.is_minus) texts)) (cut-text parts.0 parts.1 (term-free radix parts.0 term parts.3) (terms-first radix parts.1 terms parts.4))
    ∙ front-joined (term_of radix (is_minus (sign_of term.is_minus)) parts.0) (terms_of radix (drop 1 (cut_at_signs parts.1))) term terms
    (ap (λ minus. term_of radix minus parts.0) (minus-back term.is_minus) ∙ term-complete radix parts.0 term parts.3)
    (terms-complete radix parts.1 terms parts.4)

-- ---- the first sign

sign-there : (minus : Bool) (rest : List ℕ) → with_first_sign (sign_text minus ++ rest) ≡ sign_text minus ++ rest
sign-there true rest = refl
sign-there false rest = refl

sign-left_out : (text rest : List ℕ) → FreeText text → with_first_sign (text ++ rest) ≡ 43 ∷ (text ++ rest)
sign-left_out [] rest free = absurd free
sign-left_out (c ∷ text) rest free = chosen_second (is_sign c) (c ∷ (text ++ rest)) (43 ∷ c ∷ (text ++ rest)) free.0

abbrev behind : List ℕ → List ℕ
behind [] = []
behind (c ∷ text) = text

behind-sign : (minus : Bool) (rest : List ℕ) → behind (sign_text minus ++ rest) ≡ rest
behind-sign true rest = refl
behind-sign false rest = refl

pub complete : (radix : Radix) (text : List ℕ) (terms : Expression) → Writes radix text terms → terms_of radix (signed_texts text) ≡ Some terms
complete radix text [] writes = absurd writes
complete radix text (term ∷ terms) (inl parts) =
    let P : List ℕ → Type 0 = λ t. with_first_sign t ≡ t in
    ap (λ t. terms_of radix (drop 1 (cut_at_signs t))) (subst P (sym parts.2) (sign-there term.is_minus (parts.0 ++ parts.1)))
    ∙ terms-complete radix text (term ∷ terms) parts
complete radix text (term ∷ terms) (inr parts) =
    let P : List ℕ → Type 0 = λ t. with_first_sign t ≡ 43 ∷ t in
    let is : text ≡ parts.0 ++ parts.1 = ap behind parts.2 ∙ behind-sign term.is_minus (parts.0 ++ parts.1) in
    ap (λ t. terms_of radix (drop 1 (cut_at_signs t))) (subst P (sym is) (sign-left_out parts.0 parts.1 (term-free radix parts.0 term parts.3)))
    ∙ terms-complete radix (43 ∷ text) (term ∷ terms) parts

-- a text writes one expression at most
pub only : (radix : Radix) (text : List ℕ) (terms : Expression) → terms_of radix (signed_texts text) ≡ Some terms → (other : Expression) → Writes radix text other → other ≡ terms
only radix text terms is other writes = let read = complete radix text other writes in cc

pub outside : (radix : Radix) (text : List ℕ) → terms_of radix (signed_texts text) ≡ None → (terms : Expression) → Writes radix text terms → ⊥
outside radix text none terms writes = let read = complete radix text terms writes in cc
