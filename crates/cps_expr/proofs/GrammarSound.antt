-- What is read is in the grammar.
use Rattle.std.proofs.Common.{◌≡◌, ℕ, ◌^◌, Bool, true, false, cond, List, [], ◌∷◌, ◌++◌, ◌||◌, drop, Option, None, Some, inl, inr, refl, sym, ap, ◌∙◌, subst, arith}
use Rattle.std.specs.Prelude.{◌==◌, codes, option_map, option_and_then, Result, Ok, Err, IfOk}
use Rattle.std.proofs.lemmas.Bool.Decides.{nat_tests}
use Rattle.cps_text.specs.declared.name.Name.{Name}
use Rattle.cps_text.specs.Name.{name_of}
use Rattle.cps_expr.specs.declared.radix.Radix.{Radix}
use Rattle.cps_expr.specs.declared.term.Element.{Element}
use Rattle.cps_expr.specs.declared.term.Element.TheVariants.{Number, Symbol, Counter}
use Rattle.cps_expr.specs.declared.term.Operator.{Operator}
use Rattle.cps_expr.specs.declared.term.Operator.TheVariants.{Times, Over}
use Rattle.cps_expr.specs.declared.term.Factor.{Factor}
use Rattle.cps_expr.specs.Number.{number_of}
use Rattle.cps_expr.specs.Term.{Term, is_operator, is_star, onto_token, tokens_of, number_or_symbol, element_of, operator_of, factor_of, factors_of, term_with, term_of_tokens, term_of}
use Rattle.cps_expr.specs.Expression.{Expression, is_sign, is_minus, onto_first, cut_at_signs, signed_texts, terms_of}
use Rattle.cps_expr.specs.Grammar.{WritesElement, operator_text, WriteFactors, WritesTerm, sign_text, WriteTerms, Writes}
use Rattle.cps_expr.proofs.Choices.{chosen_first, chosen_second}

-- ---- texts joined again

abbrev pub join : List (List ℕ) → List ℕ
join [] = []
join (text ∷ texts) = text ++ join texts

join-either : (b : Bool) (x y : List (List ℕ)) (text : List ℕ) → join x ≡ text → join y ≡ text → join (cond b x y) ≡ text
join-either true x y text first second = first
join-either false x y text first second = second

join-run : (c : ℕ) (tokens : List (List ℕ)) → join (onto_token c tokens) ≡ c ∷ join tokens
join-run c [] = refl
join-run c (token ∷ tokens) = join-either _ ((c ∷ []) ∷ token ∷ tokens) ((c ∷ token) ∷ tokens) (c ∷ (token ++ join tokens)) refl refl

join-tokens : (text : List ℕ) → join (tokens_of text) ≡ text
join-tokens [] = refl
join-tokens (c ∷ text) =
    let rest = join-tokens text in
    join-either (is_operator c) ((c ∷ []) ∷ tokens_of text) (onto_token c (tokens_of text)) (c ∷ text) (ap (λ left. c ∷ left) rest) (join-run c (tokens_of text) ∙ ap (λ left. c ∷ left) rest)

join-first : (c : ℕ) (texts : List (List ℕ)) → join (onto_first c texts) ≡ c ∷ join texts
join-first c [] = refl
join-first c (text ∷ texts) = refl

join-cut : (text : List ℕ) → join (cut_at_signs text) ≡ text
join-cut [] = refl
join-cut (c ∷ text) =
    let rest : join (onto_first c (cut_at_signs text)) ≡ c ∷ text = join-first c (cut_at_signs text) ∙ ap (λ left. c ∷ left) (join-cut text) in
    join-either (is_sign c) ([] ∷ onto_first c (cut_at_signs text)) (onto_first c (cut_at_signs text)) (c ∷ text) rest rest

-- ---- elements and operators

same-of : (c d : ℕ) → (c == d) ≡ true → c ≡ d
same-of c d is = grind (arith, nat_tests)

star-text : (text : List ℕ) → is_star text ≡ true → text ≡ codes "*"
star-text [] is = cc
star-text (c ∷ []) is = ap (λ d. d ∷ []) (same-of c 42 is)
star-text (c ∷ d ∷ text) is = cc

abbrev From : Bool → Option ℕ → Option Name → Element → Type 0
From star number name (Number n) = number ≡ Some n
From star number name (Symbol s) = name ≡ Some s
From star number name Counter = star ≡ true

element-from : (star : Bool) (number : Option ℕ) (name : Option Name) (element : Element) → cond star (Some Counter) (number_or_symbol number name) ≡ Some element → From star number name element
element-from true number name Counter is = refl
element-from true number name (Number n) is = cc
element-from true number name (Symbol s) is = cc
element-from false (Some m) name Counter is = cc
element-from false (Some m) name (Number n) is = cc
element-from false (Some m) name (Symbol s) is = cc
element-from false None (Some t) Counter is = cc
element-from false None (Some t) (Number n) is = cc
element-from false None (Some t) (Symbol s) is = cc
element-from false None None Counter is = cc
element-from false None None (Number n) is = cc
element-from false None None (Symbol s) is = cc

pub element-sound : (radix : Radix) (text : List ℕ) (element : Element) → element_of radix text ≡ Some element → WritesElement radix text element
element-sound radix text (Number n) is = element-from (is_star text) (number_of (2 ^ 59) radix text) (name_of text) (Number n) is
element-sound radix text (Symbol s) is = element-from (is_star text) (number_of (2 ^ 59) radix text) (name_of text) (Symbol s) is
element-sound radix text Counter is = star-text text (element-from (is_star text) (number_of (2 ^ 59) radix text) (name_of text) Counter is)

operator-from : (c : ℕ) (times over : Bool) (operator : Operator) → (times ≡ true → c ≡ 42) → (over ≡ true → c ≡ 47)
    → cond times (Some Times) (cond over (Some Over) None) ≡ Some operator → c ∷ [] ≡ operator_text operator
operator-from c true over Times is_times is_over is = ap (λ d. d ∷ []) (is_times refl)
operator-from c true over Over is_times is_over is = cc
operator-from c false true Times is_times is_over is = cc
operator-from c false true Over is_times is_over is = ap (λ d. d ∷ []) (is_over refl)
operator-from c false false operator is_times is_over is = cc

operator-sound : (text : List ℕ) (operator : Operator) → operator_of text ≡ Some operator → text ≡ operator_text operator
operator-sound [] operator is = cc
operator-sound (c ∷ []) operator is = operator-from c (c == 42) (c == 47) operator (same-of c 42) (same-of c 47) is
operator-sound (c ∷ d ∷ text) operator is = cc

-- ---- terms

factor-parts : (operator : Option Operator) (element : Option Element) (factor : Factor)
    → option_and_then (λ o. option_map (λ e. record { operator = o; element = e }) element) operator ≡ Some factor → (operator ≡ Some factor.operator) × (element ≡ Some factor.element)
factor-parts None element factor is = cc
factor-parts (Some o) None factor is = cc
factor-parts (Some o) (Some e) factor is =
    let same : record { operator = o; element = e } ≡ factor = cc in
    (ap (λ f. Some f.operator) same, ap (λ f. Some f.element) same)

front-parts : {X : Type 0} (first : Option X) (rest : Option (List X)) (x : X) (xs : List X)
    → option_and_then (λ y. option_map (λ ys. y ∷ ys) rest) first ≡ Some (x ∷ xs) → (first ≡ Some x) × (rest ≡ Some xs)
front-parts None rest x xs is = cc
front-parts (Some y) None x xs is = cc
front-parts (Some y) (Some ys) x xs is = (cc, cc)

front-some : {X : Type 0} (first : Option X) (rest : Option (List X)) → option_and_then (λ y. option_map (λ ys. y ∷ ys) rest) first ≡ Some [] → ⊥
front-some None rest is = cc
front-some (Some y) None is = cc
front-some (Some y) (Some ys) is = cc

factors-sound : (radix : Radix) (tokens : List (List ℕ)) (factors : List Factor) → factors_of radix tokens ≡ Some factors → WriteFactors radix (join tokens) factors
factors-sound radix [] [] is = refl
factors-sound radix [] (factor ∷ factors) is = absurd cc
factors-sound radix (operator ∷ []) factors is = absurd cc
factors-sound radix (operator ∷ element ∷ tokens) [] is = absurd (front-some (factor_of radix operator element) (factors_of radix tokens) is)
factors-sound radix (operator ∷ element ∷ tokens) (factor ∷ factors) is =
    let parts = front-parts (factor_of radix operator element) (factors_of radix tokens) factor factors is in
    let both = factor-parts (operator_of operator) (element_of radix element) factor parts.0 in (
      element,
      join tokens,
      ap (λ text. text ++ (element ++ join tokens)) (operator-sound operator factor.operator both.0),
      element-sound radix element factor.element both.1,
      factors-sound radix tokens factors parts.1,
    )

term-parts : (minus : Bool) (first : Option Element) (factors : Option (List Factor)) (term : Term) → term_with minus first factors ≡ Some term
    → (first ≡ Some term.first) × (factors ≡ Some term.factors) × (minus ≡ term.is_minus)
term-parts minus None factors term is = cc
term-parts minus (Some e) None term is = cc
term-parts minus (Some e) (Some fs) term is =
    let same : record { is_minus = minus; first = e; factors = fs } ≡ term = cc in
    (ap (λ t. Some t.first) same, ap (λ t. Some t.factors) same, ap (λ t. t.is_minus) same)

tokens-sound : (radix : Radix) (minus : Bool) (tokens : List (List ℕ)) (term : Term) → term_of_tokens radix minus tokens ≡ Some term
    → WritesTerm radix (join tokens) term × (minus ≡ term.is_minus)
tokens-sound radix minus [] term is = absurd cc
tokens-sound radix minus (element ∷ tokens) term is =
    let parts = term-parts minus (element_of radix element) (factors_of radix tokens) term is in
    ((element, join tokens, refl, element-sound radix element term.first parts.0, factors-sound radix tokens term.factors parts.1), parts.2)

term-sound : (radix : Radix) (minus : Bool) (text : List ℕ) (term : Term) → term_of radix minus text ≡ Some term → WritesTerm radix text term × (minus ≡ term.is_minus)
term-sound radix minus text term is =
    let found = tokens-sound radix minus (tokens_of text) term is in
    let P : List ℕ → Type 0 = λ t. WritesTerm radix t term in
    (subst P (join-tokens text) found.0, found.1)

-- ---- signs

sign-from : (sign : ℕ) (plus minus : Bool) → (plus ≡ true → sign ≡ 43) → (minus ≡ true → sign ≡ 45) → (plus || (minus || false)) ≡ true → sign ∷ [] ≡ sign_text minus
sign-from sign plus true is_plus is_minus found = ap (λ c. c ∷ []) (is_minus refl)
sign-from sign true false is_plus is_minus found = ap (λ c. c ∷ []) (is_plus refl)
sign-from sign false false is_plus is_minus found = cc

sign-back : (sign : ℕ) → is_sign sign ≡ true → sign ∷ [] ≡ sign_text (is_minus sign)
sign-back sign found = sign-from sign (sign == 43) (sign == 45) (same-of sign 43) (same-of sign 45) found

-- each text begins with a sign
abbrev Signed : List (List ℕ) → Type 0
Signed [] = Unit {0}
Signed ([] ∷ texts) = ⊥
Signed ((sign ∷ text) ∷ texts) = (is_sign sign ≡ true) × Signed texts

signed-first : (sign : ℕ) (texts : List (List ℕ)) → is_sign sign ≡ true → Signed (drop 1 texts) → Signed (onto_first sign texts)
signed-first sign [] found rest = (found, tt)
signed-first sign (text ∷ texts) found rest = (found, rest)

behind-first : (c : ℕ) (texts : List (List ℕ)) → Signed (drop 1 texts) → Signed (drop 1 (onto_first c texts))
behind-first c [] rest = tt
behind-first c (text ∷ texts) rest = rest

signed-either : (b : Bool) (x y : List (List ℕ)) → (b ≡ true → Signed (drop 1 x)) → Signed (drop 1 y) → Signed (drop 1 (cond b x y))
signed-either true x y first second = first refl
signed-either false x y first second = second

signed-cut : (text : List ℕ) → Signed (drop 1 (cut_at_signs text))
signed-cut [] = tt
signed-cut (c ∷ text) =
    let rest = signed-cut text in
    signed-either (is_sign c) ([] ∷ onto_first c (cut_at_signs text)) (onto_first c (cut_at_signs text))
    (λ found. signed-first c (cut_at_signs text) found rest) (behind-first c (cut_at_signs text) rest)

-- ---- the expression

terms-sound : (radix : Radix) (texts : List (List ℕ)) (terms : Expression) → Signed texts → terms_of radix texts ≡ Some terms → WriteTerms radix (join texts) terms
terms-sound radix [] [] signed is = refl
terms-sound radix [] (term ∷ terms) signed is = absurd cc
terms-sound radix ([] ∷ texts) terms signed is = absurd signed
terms-sound radix ((sign ∷ text) ∷ texts) [] signed is = absurd (front-some (term_of radix (is_minus sign) text) (terms_of radix texts) is)
terms-sound radix ((sign ∷ text) ∷ texts) (term ∷ terms) signed is =
    let parts = front-parts (term_of radix (is_minus sign) text) (terms_of radix texts) term terms is in
    let found = term-sound radix (is_minus sign) text term parts.0 in (
      text,
      join texts,
      ap (λ front. front ++ (text ++ join texts)) (sign-back sign signed.0 ∙ ap sign_text found.1),
      found.0,
      terms-sound radix texts terms signed.1 parts.1,
    )

-- an expression whose first sign is there
signed-sound : (radix : Radix) (sign : ℕ) (text : List ℕ) (terms : Expression) → is_sign sign ≡ true → terms_of radix (onto_first sign (cut_at_signs text)) ≡ Some terms
    → WriteTerms radix (sign ∷ text) terms
signed-sound radix sign text terms found is =
    let P : List ℕ → Type 0 = λ t. WriteTerms radix t terms in
    subst P (join-first sign (cut_at_signs text) ∙ ap (λ left. sign ∷ left) (join-cut text))
    (terms-sound radix (onto_first sign (cut_at_signs text)) terms (signed-first sign (cut_at_signs text) found (signed-cut text)) is)

some-terms : (radix : Radix) (c : ℕ) (texts : List (List ℕ)) → terms_of radix (onto_first c texts) ≡ Some [] → ⊥
some-terms radix c [] is = front-some (term_of radix (is_minus c) []) (Some []) is
some-terms radix c (text ∷ texts) is = front-some (term_of radix (is_minus c) text) (terms_of radix texts) is

texts-signed : (c : ℕ) (text : List ℕ) → is_sign c ≡ true → signed_texts (c ∷ text) ≡ onto_first c (cut_at_signs text)
texts-signed c text is =
    ap (λ t. drop 1 (cut_at_signs t)) (chosen_first (is_sign c) (c ∷ text) (43 ∷ c ∷ text) is)
    ∙ ap (drop 1) (chosen_first (is_sign c) ([] ∷ onto_first c (cut_at_signs text)) (onto_first c (cut_at_signs text)) is)

texts-plain : (c : ℕ) (text : List ℕ) → is_sign c ≡ false → signed_texts (c ∷ text) ≡ onto_first 43 (cut_at_signs (c ∷ text))
texts-plain c text is = ap (λ t. drop 1 (cut_at_signs t)) (chosen_second (is_sign c) (c ∷ text) (43 ∷ c ∷ text) is)

sound-by : (radix : Radix) (c : ℕ) (text : List ℕ) (terms : Expression) (signed : Bool) → is_sign c ≡ signed → terms_of radix (signed_texts (c ∷ text)) ≡ Some terms → Writes radix (c ∷ text) terms
sound-by radix c text [] true found is = some-terms radix c (cut_at_signs text) (sym (ap (terms_of radix) (texts-signed c text found)) ∙ is)
sound-by radix c text [] false found is = some-terms radix 43 (cut_at_signs (c ∷ text)) (sym (ap (terms_of radix) (texts-plain c text found)) ∙ is)
sound-by radix c text (term ∷ terms) true found is =
    inl (signed-sound radix c text (term ∷ terms) found (sym (ap (terms_of radix) (texts-signed c text found)) ∙ is))
sound-by radix c text (term ∷ terms) false found is =
    inr (signed-sound radix 43 (c ∷ text) (term ∷ terms) refl (sym (ap (terms_of radix) (texts-plain c text found)) ∙ is))

pub sound : (radix : Radix) (text : List ℕ) (terms : Expression) → terms_of radix (signed_texts text) ≡ Some terms → Writes radix text terms
sound radix [] terms is = absurd cc
sound radix (c ∷ text) terms is = sound-by radix c text terms (is_sign c) refl is

pub ok-along : {T E : Type 0} (P Q : T → Type 0) (outcome : Result T E) → ((x : T) → P x → Q x) → IfOk outcome P → IfOk outcome Q
ok-along P Q (Ok x) along is = along x is
ok-along P Q (Err e) along is = tt
