-- The texts of elements: no operator and no sign stands in a number or a symbol.
use Rattle.std.proofs.Common.{◌≡◌, ℕ, zero, suc, ◌+◌, ◌-◌, ◌^◌, ◌<◌, ◌≤◌, Bool, true, false, cond, ◌&&◌, ◌||◌, List, [], ◌∷◌, length, get_or, take, Option, None, Some, ◌⊎◌, inl, inr, refl, ap, arith}
use Rattle.std.specs.Prelude.{◌==◌, codes, nat_eq, nat_lt, nat_le, not}
use Rattle.std.specs.List.{list_all}
use Rattle.std.proofs.lemmas.Bool.Decides.{nat_tests}
use Rattle.cps_text.specs.declared.name.Name.{Name}
use Rattle.cps_text.specs.Name.{name_of}
use Rattle.cps_text.specs.Symbol.{begins_symbol, continues_symbol, generated_digits, is_generated, is_name, is_register, is_symbol, padded}
use Rattle.cps_text.specs.Text.{among, capital, capitals, is_digit, is_letter}
use Rattle.cps_expr.specs.declared.radix.Radix.{Radix}
use Rattle.cps_expr.specs.declared.radix.Radix.TheVariants.{Octal, Decimal}
use Rattle.cps_expr.specs.declared.term.Element.{Element}
use Rattle.cps_expr.specs.declared.term.Element.TheVariants.{Number, Symbol, Counter}
use Rattle.cps_text.specs.Digits.{digits_number}
use Rattle.cps_expr.specs.Number.{base_of, base_named, last, number_in, number_with, number_of}
use Rattle.cps_expr.specs.Term.{is_operator, is_star, number_or_symbol, element_of}
use Rattle.cps_expr.specs.Expression.{is_sign}
use Rattle.cps_expr.specs.Grammar.{WritesElement}

abbrev pub PlainCharacter : ℕ → Type 0
PlainCharacter c = (is_operator c ≡ false) × (is_sign c ≡ false)

-- no operator and no sign stands in it
abbrev pub Plain : List ℕ → Type 0
Plain [] = Unit {0}
Plain (c ∷ text) = PlainCharacter c × Plain text

not-same : (c d : ℕ) → (c ≡ d → ⊥) → (c == d) ≡ false
not-same c d other = grind (arith, nat_tests)

neither : (a b : Bool) → a ≡ false → b ≡ false → (a || (b || false)) ≡ false
neither false false first second = refl
neither true b first second = cc
neither false true first second = cc

-- a test that no operator and no sign passes
plain-character : (p : ℕ → Bool) → p 42 ≡ false → p 43 ≡ false → p 45 ≡ false → p 47 ≡ false → (c : ℕ) → p c ≡ true → PlainCharacter c
plain-character p star plus minus slash c passes =
    let other = λ (d : ℕ) (fails : p d ≡ false). not-same c d (λ (is : c ≡ d). let e : p c ≡ p d = ap p is in absurd cc) in (
      neither (c == 42) (c == 47) (other 42 star) (other 47 slash),
      neither (c == 43) (c == 45) (other 43 plus) (other 45 minus),
    )

both-true : (a b : Bool) → (a && b) ≡ true → (a ≡ true) × (b ≡ true)
both-true true true is = (refl, refl)
both-true true false is = cc
both-true false b is = cc

plain-digits : (base : ℕ) (digits : List ℕ) → list_all (is_digit base) digits ≡ true → Plain digits
plain-digits base [] all = tt
plain-digits base (c ∷ digits) all =
    let parts = both-true (is_digit base c) (list_all (is_digit base) digits) all in
    (plain-character (is_digit base) refl refl refl refl c parts.0, plain-digits base digits parts.1)

-- a character of a symbol or of a generated name, and the first one
abbrev begins_name : ℕ → Bool
begins_name c = begins_symbol c || among (codes "~") c

abbrev continues_name : ℕ → Bool
continues_name c = continues_symbol c || among (codes "~") c

plain-symbol : (text : List ℕ) → list_all continues_name (capitals text) ≡ true → Plain text
plain-symbol [] all = tt
plain-symbol (c ∷ text) all =
    let parts = both-true (continues_name (capital c)) (list_all continues_name (capitals text)) all in
    (plain-character (λ d. continues_name (capital d)) refl refl refl refl c parts.0, plain-symbol text parts.1)

abbrev is_named : Option ℕ → Bool
is_named None = false
is_named (Some base) = true

plain-letter : (c base : ℕ) → base_named c ≡ Some base → PlainCharacter c
plain-letter c base is = plain-character (λ d. is_named (base_named d)) refl refl refl refl c (ap is_named is)

plain-front : (k : ℕ) (text : List ℕ) → k + 1 ≡ length text → Plain (take k text) → PlainCharacter (get_or text k 0) → Plain text
plain-front zero [] whole front letter = tt
plain-front zero (c ∷ []) whole front letter = (letter, tt)
plain-front zero (c ∷ d ∷ text) whole front letter = absurd (omega arith)
plain-front (suc k) [] whole front letter = tt
plain-front (suc k) (c ∷ text) whole front letter = (front.0, plain-front k text (omega arith) front.1 letter)

-- ---- numbers

chosen_some : (a b d : Bool) (m n : ℕ) → cond (a && (b && d)) (Some m) None ≡ Some n → (a ≡ true) × (b ≡ true)
chosen_some true true d m n is = (refl, refl)
chosen_some true false d m n is = cc
chosen_some false b d m n is = cc

digits-of : (limit base : ℕ) (digits : List ℕ) (n : ℕ) → number_in limit base digits ≡ Some n → (nat_lt 0 (length digits) ≡ true) × (list_all (is_digit base) digits ≡ true)
digits-of limit base digits n is = chosen_some (nat_lt 0 (length digits)) (list_all (is_digit base) digits) (nat_lt (digits_number base digits) limit) (digits_number base digits) n is

base-small : (radix : Radix) → base_of radix ≤ 10
base-small Octal = omega arith
base-small Decimal = omega arith

named-either : (octal decimal : Bool) (base : ℕ) → cond octal (Some 8) (cond decimal (Some 10) None) ≡ Some base → base ≤ 10
named-either true decimal base is = let e : 8 ≡ base = cc in omega arith
named-either false true base is = let e : 10 ≡ base = cc in omega arith
named-either false false base is = cc

named-small : (c base : ℕ) → base_named c ≡ Some base → base ≤ 10
named-small c base is = named-either _ _ base is

-- the first character of a number is a digit
first-digit : (base k c : ℕ) (text : List ℕ) → (nat_lt 0 (length (take k (c ∷ text))) ≡ true) × (list_all (is_digit base) (take k (c ∷ text)) ≡ true) → is_digit base c ≡ true
first-digit base zero c text found = let no = found.0 in cc
first-digit base (suc k) c text found = (both-true (is_digit base c) (list_all (is_digit base) (take k text)) found.1).0

digit-begins-none : (base c : ℕ) → base ≤ 10 → is_digit base c ≡ true → begins_name (capital c) ≡ true → ⊥
digit-begins-none base c small digit begins = grind (arith, nat_tests)

number-with-plain : (limit : ℕ) (radix : Radix) (text : List ℕ) (n : ℕ) (named : Option ℕ) → base_named (last text) ≡ named → number_with limit named radix text ≡ Some n → Plain text
number-with-plain limit radix text n None named is = plain-digits (base_of radix) text (digits-of limit (base_of radix) text n is).1
number-with-plain limit radix [] n (Some base) named is = tt
number-with-plain limit radix (c ∷ text) n (Some base) named is =
    plain-front (length (c ∷ text) - 1) (c ∷ text) (omega arith)
    (plain-digits base (take (length (c ∷ text) - 1) (c ∷ text)) (digits-of limit base (take (length (c ∷ text) - 1) (c ∷ text)) n is).1)
    (plain-letter (last (c ∷ text)) base named)

number-plain : (limit : ℕ) (radix : Radix) (text : List ℕ) (n : ℕ) → number_of limit radix text ≡ Some n → Plain text
number-plain limit radix text n is = number-with-plain limit radix text n (base_named (last text)) refl is

number-with-first : (limit : ℕ) (radix : Radix) (c : ℕ) (text : List ℕ) (n : ℕ) (named : Option ℕ) → base_named (last (c ∷ text)) ≡ named → number_with limit named radix (c ∷ text) ≡ Some n
    → begins_name (capital c) ≡ true → ⊥
number-with-first limit radix c text n None named is begins =
    let digits = digits-of limit (base_of radix) (c ∷ text) n is in
    digit-begins-none (base_of radix) c (base-small radix) (both-true (is_digit (base_of radix) c) (list_all (is_digit (base_of radix)) text) digits.1).0 begins
number-with-first limit radix c text n (Some base) named is begins =
    digit-begins-none base c (named-small (last (c ∷ text)) base named)
    (first-digit base (length (c ∷ text) - 1) c text (digits-of limit base (take (length (c ∷ text) - 1) (c ∷ text)) n is)) begins

none-of : (found : Option ℕ) → ((n : ℕ) → found ≡ Some n → ⊥) → found ≡ None
none-of None never = refl
none-of (Some n) never = absurd (never n refl)

-- ---- symbols

test-passed : {X : Type 0} (b : Bool) (x y : X) → cond b (Some x) None ≡ Some y → b ≡ true
test-passed true x y is = refl
test-passed false x y is = cc

or-true-left : (a b : Bool) → a ≡ true → (a || b) ≡ true
or-true-left true b is = refl
or-true-left false b is = cc

or-true-right : (a b : Bool) → b ≡ true → (a || b) ≡ true
or-true-right true b is = refl
or-true-right false b is = is

and-true : (a b : Bool) → a ≡ true → b ≡ true → (a && b) ≡ true
and-true true b first second = second
and-true false b first second = cc

symbols-continue : (text : List ℕ) → list_all continues_symbol text ≡ true → list_all continues_name text ≡ true
symbols-continue [] all = refl
symbols-continue (c ∷ text) all =
    let parts = both-true (continues_symbol c) (list_all continues_symbol text) all in
    and-true (continues_name c) (list_all continues_name text) (or-true-left (continues_symbol c) (among (codes "~") c) parts.0) (symbols-continue text parts.1)

digit-continues : (c : ℕ) → is_digit 10 c ≡ true → continues_symbol c ≡ true
digit-continues c is = or-true-right (is_letter c) (is_digit 10 c || among (codes ".=") c) (or-true-left (is_digit 10 c) (among (codes ".=") c) is)

digits-continue : (text : List ℕ) → list_all (is_digit 10) text ≡ true → list_all continues_symbol text ≡ true
digits-continue [] all = refl
digits-continue (c ∷ text) all =
    let parts = both-true (is_digit 10 c) (list_all (is_digit 10) text) all in
    and-true (continues_symbol c) (list_all continues_symbol text) (digit-continues c parts.0) (digits-continue text parts.1)

abbrev NameParts : List ℕ → Type 0
NameParts letters = (begins_name (get_or letters 0 0) ≡ true) × (list_all continues_name letters ≡ true)

written-parts : (letters : List ℕ) → is_symbol letters ≡ true → NameParts letters
written-parts letters symbol =
    let parts = both-true (nat_lt 0 (length letters) && nat_le (length letters) 8) (begins_symbol (get_or letters 0 0) && (list_all continues_symbol letters && not (is_register letters))) symbol in
    let later = both-true (begins_symbol (get_or letters 0 0)) (list_all continues_symbol letters && not (is_register letters)) parts.1 in (
      or-true-left (begins_symbol (get_or letters 0 0)) (among (codes "~") (get_or letters 0 0)) later.0,
      symbols-continue letters (both-true (list_all continues_symbol letters) (not (is_register letters)) later.1).0,
    )

generated-parts : (letters : List ℕ) → is_generated letters ≡ true → NameParts letters
generated-parts [] generated = cc
generated-parts (mark ∷ digits) generated =
    let all = list_all (is_digit 10) digits in
    let zeros = list_all (among (codes "0")) digits in
    let parts = both-true (among (codes "~") mark) (nat_eq (length digits) generated_digits && (all && not zeros)) generated in
    let later = both-true (nat_eq (length digits) generated_digits) (all && not zeros) parts.1 in (
      or-true-right (begins_symbol mark) (among (codes "~") mark) parts.0,
      and-true (continues_name mark) (list_all continues_name digits) (or-true-right (continues_symbol mark) (among (codes "~") mark) parts.0)
          (symbols-continue digits (digits-continue digits (both-true all (not zeros) later.1).0)),
    )

either-parts : (letters : List ℕ) (symbol generated : Bool) → is_symbol letters ≡ symbol → is_generated letters ≡ generated → (symbol || generated) ≡ true → NameParts letters
either-parts letters true generated is was one = written-parts letters is
either-parts letters false true is was one = generated-parts letters was
either-parts letters false false is was one = cc

symbol-parts : (text : List ℕ) (name : Name) → name_of text ≡ Some name → NameParts (capitals text)
symbol-parts text name is =
    let letters = capitals text in
    either-parts letters (is_symbol letters) (is_generated letters) refl refl (test-passed (is_name letters) (record { bytes = padded letters }) name is)

-- ---- elements

or-first : (a b : Bool) → (a || b) ≡ false → a ≡ false
or-first false b is = refl
or-first true b is = cc

star-plain : (text : List ℕ) → Plain text → is_star text ≡ false
star-plain [] plain = refl
star-plain (c ∷ []) plain = or-first (c == 42) ((c == 47) || false) plain.0.0
star-plain (c ∷ d ∷ text) plain = refl

element-number : (star : Bool) (number : Option ℕ) (name : Option Name) (n : ℕ) → star ≡ false → number ≡ Some n → cond star (Some Counter) (number_or_symbol number name) ≡ Some (Number n)
element-number true number name n plain is = cc
element-number false None name n plain is = cc
element-number false (Some m) name n plain is = let e : m ≡ n = cc in ap (λ k. Some (Number k)) e

element-symbol : (star : Bool) (number : Option ℕ) (name : Option Name) (s : Name) → star ≡ false → number ≡ None → name ≡ Some s
    → cond star (Some Counter) (number_or_symbol number name) ≡ Some (Symbol s)
element-symbol true number name s plain none is = cc
element-symbol false (Some m) name s plain none is = cc
element-symbol false None None s plain none is = cc
element-symbol false None (Some t) s plain none is = let e : t ≡ s = cc in ap (λ k. Some (Symbol k)) e

-- `*`, or a text with no operator and no sign
abbrev pub ElementText : List ℕ → Type 0
ElementText text = (text ≡ codes "*") ⊎ (Plain text × (0 < length text))

pub element-complete : (radix : Radix) (text : List ℕ) (element : Element) → WritesElement radix text element → (element_of radix text ≡ Some element) × ElementText text
element-complete radix text Counter is = (ap (element_of radix) is, inl is)
element-complete radix [] (Number n) is = absurd cc
element-complete radix (c ∷ text) (Number n) is =
    let plain = number-plain (2 ^ 59) radix (c ∷ text) n is in
    (element-number (is_star (c ∷ text)) (number_of (2 ^ 59) radix (c ∷ text)) (name_of (c ∷ text)) n (star-plain (c ∷ text) plain) is, inr (plain, omega arith))
element-complete radix [] (Symbol name) is = absurd cc
element-complete radix (c ∷ text) (Symbol name) is =
    let parts = symbol-parts (c ∷ text) name is in
    let plain = plain-symbol (c ∷ text) parts.1 in
    let none = none-of (number_of (2 ^ 59) radix (c ∷ text)) (λ n number. number-with-first (2 ^ 59) radix c text n (base_named (last (c ∷ text))) refl number parts.0) in
    (element-symbol (is_star (c ∷ text)) (number_of (2 ^ 59) radix (c ∷ text)) (name_of (c ∷ text)) name (star-plain (c ∷ text) plain) none is, inr (plain, omega arith))
