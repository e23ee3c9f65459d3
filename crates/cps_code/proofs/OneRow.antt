-- At most one row fits: a test of two shapes that passes wherever operands might fit both, and fails for all pairs of the table.
use Rattle.std.proofs.Common.{◌≡◌, ◌≢◌, ◌⊎◌, inl, inr, ℕ, ◌+◌, Bool, true, false, cond, eqb, not, ◌&&◌, ◌||◌, List, [], ◌∷◌, reverse, length, Option, None, Some, refl, sym, ap, subst, ◌∙◌, arith}
use mathlib.Core.List.{reverse_aux}
use Rattle.std.proofs.lemmas.Bool.Decides.{nat_tests}
use Rattle.std.proofs.lemmas.List.{reverse-reverse}
use Rattle.std.proofs.lemmas.List.Sums.{AllPass-from_list_all}
use Rattle.std.specs.Prelude.{◌==◌, codes, option_map, option_and_then, is_some, IsSome}
use Rattle.std.specs.List.{list_all, AllZip}
use Rattle.cps_text.specs.Text.{among, capital, is_digit}
use Rattle.cps_expr.specs.declared.radix.Radix.{Radix}
use Rattle.cps_code.specs.declared.digits.Digits.{Digits}
use Rattle.cps_code.specs.declared.register.RegisterLetter.{RegisterLetter}
use Rattle.cps_code.specs.declared.register.RegisterLetter.TheVariants.{A, B, X}
use Rattle.cps_code.specs.declared.register.RegisterTerm.{RegisterTerm}
use Rattle.cps_code.specs.Digits.{with_digit, with_character, digits_in}
use Rattle.cps_code.specs.OneRow.{Fits, Names, OneRowFits, OneIsNamed, RowsStandTogether}
use Rattle.cps_code.specs.Register.{digit_value}
use Rattle.cps_code.specs.Rows.{Pattern, RowTerm, Shape, unread, fields, summed, RowForm, Operation}
use Rattle.cps_code.specs.RowForms.{Found, Operands, turned_sum, turned, registers_in, found_behind, found_in_fields, same_bool, same_letter, is_of, digits_of_terms, is_constant, only_for, found_in_sum, found_in, form_found}
use Rattle.cps_code.specs.declared.hole.Operand.{Operand}
use Rattle.cps_code.specs.Sum.{Summed}
use Rattle.cps_code.specs.Table.{cp_operations}
use Rattle.cps_code.proofs.PairLemmas.{no_clash, pairs_apart}
use Rattle.cps_code.proofs.BothTrue.{left_true, right_true}

-- ---- what is found

mapped : {T U : Type 0} (f : T → U) (o : Option T) → IsSome (option_map f o) → IsSome o
mapped f None found = cc
mapped f (Some x) found = refl

found_then : {T U : Type 0} (f : T → Option U) (o : Option T) → IsSome (option_and_then f o) → (x : T) × (o ≡ Some x) × IsSome (f x)
found_then f None found = cc
found_then f (Some x) found = (x, refl, found)

found_twice : {T U V : Type 0} (g : U → Option V) (f : T → Option U) (o : Option T) → IsSome (option_and_then g (option_and_then f o)) → (x : T) × IsSome o × IsSome (option_and_then g (f x))
found_twice g f None found = cc
found_twice g f (Some x) found = (x, refl, found)

if_some : {T : Type 0} (b : Bool) (o : Option T) → IsSome (cond b o None) → (b ≡ true) × IsSome o
if_some true o found = (refl, found)
if_some false o found = cc

both_true : (a b : Bool) → a ≡ true → b ≡ true → (a && b) ≡ true
both_true a b left right = rw (left, right) refl

-- ---- texts

-- that one character may stand for both of the table's
abbrev characters_clash : ℕ → ℕ → Bool
characters_clash letter other = among (codes "ijk") letter || (among (codes "ijk") other || letter == other)

abbrev texts_clash : List ℕ → List ℕ → Bool
texts_clash [] [] = true
texts_clash [] (other ∷ others) = false
texts_clash (letter ∷ letters) [] = false
texts_clash (letter ∷ letters) (other ∷ others) = characters_clash letter other && texts_clash letters others

character-clash : (letter other character : ℕ) (digits more : Digits) → IsSome (with_character letter character digits) → IsSome (with_character other character more) → characters_clash letter other ≡ true
character-clash letter other character digits more one two = by_cases (among (codes "ijk") letter) (among (codes "ijk") other) (eqb letter (capital character)) (eqb other (capital character)) refl refl one two
  where
    by_cases : (a b c d : Bool) → eqb letter (capital character) ≡ c → eqb other (capital character) ≡ d
        → IsSome (cond a (cond (is_digit 8 character) (Some (with_digit letter (digit_value character) digits)) None) (cond c (Some digits) None))
        → IsSome (cond b (cond (is_digit 8 character) (Some (with_digit other (digit_value character) more)) None) (cond d (Some more) None))
        → (a || (b || eqb letter other)) ≡ true
    by_cases true b c d is_c is_d one two = refl
    by_cases false true c d is_c is_d one two = refl
    by_cases false false false d is_c is_d one two = cc
    by_cases false false true false is_c is_d one two = cc
    by_cases false false true true is_c is_d one two = grind (arith, nat_tests)

text-clash : (letters others text : List ℕ) (digits more : Digits) → IsSome (digits_in letters text digits) → IsSome (digits_in others text more) → texts_clash letters others ≡ true
text-clash [] [] text digits more one two = refl
text-clash [] (other ∷ others) [] digits more one two = cc
text-clash [] (other ∷ others) (character ∷ text) digits more one two = cc
text-clash (letter ∷ letters) [] [] digits more one two = cc
text-clash (letter ∷ letters) [] (character ∷ text) digits more one two = cc
text-clash (letter ∷ letters) (other ∷ others) [] digits more one two = cc
text-clash (letter ∷ letters) (other ∷ others) (character ∷ text) digits more one two =
    let first = found_then (digits_in letters text) (with_character letter character digits) one in
    let second = found_then (digits_in others text) (with_character other character more) two in
    both_true _ _
    (character-clash letter other character digits more (ap is_some first.1) (ap is_some second.1))
    (text-clash letters others text first.0 second.0 first.2 second.2)

character-self : (letter : ℕ) → characters_clash letter letter ≡ true
character-self letter = by_cases (among (codes "ijk") letter)
  where
    by_cases : (a : Bool) → (a || (a || eqb letter letter)) ≡ true
    by_cases true = refl
    by_cases false = grind (arith, nat_tests)

text-self : (letters : List ℕ) → texts_clash letters letters ≡ true
text-self [] = refl
text-self (letter ∷ letters) = both_true _ _ (character-self letter) (text-self letters)

-- ---- operands of registers, and one for a hole after them

abbrev registers_clash : List (List ℕ) → List (List ℕ) → Bool
registers_clash [] others = true
registers_clash (letters ∷ registers) [] = true
registers_clash (letters ∷ registers) (other ∷ others) = texts_clash letters other && registers_clash registers others

abbrev hole_count : Option ℕ → ℕ
hole_count None = 0
hole_count (Some letter) = 1

abbrev operand_count : Pattern → ℕ
operand_count pattern = length pattern.registers + hole_count pattern.hole

registers-clash : (behind next : Digits × List (List ℕ) → Option Found) (registers others texts : List (List ℕ)) (digits more : Digits)
    → IsSome (option_and_then behind (registers_in registers texts digits)) → IsSome (option_and_then next (registers_in others texts more)) → registers_clash registers others ≡ true
registers-clash behind next [] others texts digits more one two = refl
registers-clash behind next (letters ∷ registers) [] texts digits more one two = refl
registers-clash behind next (letters ∷ registers) (other ∷ others) [] digits more one two = cc
registers-clash behind next (letters ∷ registers) (other ∷ others) (text ∷ texts) digits more one two =
    let first = found_twice behind (registers_in registers texts) (digits_in letters text digits) one in
    let second = found_twice next (registers_in others texts) (digits_in other text more) two in
    both_true _ _ (text-clash letters other text digits more first.1 second.1) (registers-clash behind next registers others texts first.0 second.0 first.2 second.2)

no_operand : (b : Bool) → IsSome (cond {A = Option Operand} b None None) → ⊥
no_operand true found = cc
no_operand false found = cc

only-long : (radix : Radix) (letter : ℕ) (texts : List (List ℕ)) → IsSome (only_for radix letter texts) → length texts ≡ 1
only-long radix letter [] found = absurd (no_operand (is_constant letter) found)
only-long radix letter (text ∷ []) found = refl
only-long radix letter (text ∷ second ∷ texts) found = absurd (no_operand (is_constant letter) found)

behind-long : (radix : Radix) (hole : Option ℕ) (digits : Digits) (texts : List (List ℕ)) → IsSome (found_behind radix hole (digits, texts)) → length texts ≡ hole_count hole
behind-long radix (Some letter) digits texts found = only-long radix letter texts (mapped (λ o. record { digits = digits; operand = Some o }) (only_for radix letter texts) found)
behind-long radix None digits [] found = refl
behind-long radix None digits (text ∷ texts) found = cc

fields-long : (radix : Radix) (hole : Option ℕ) (registers texts : List (List ℕ)) (digits : Digits)
    → IsSome (option_and_then (found_behind radix hole) (registers_in registers texts digits)) → length texts ≡ length registers + hole_count hole
fields-long radix hole [] texts digits found = omega (arith, behind-long radix hole digits texts found)
fields-long radix hole (letters ∷ registers) [] digits found = cc
fields-long radix hole (letters ∷ registers) (text ∷ texts) digits found =
    let first = found_twice (found_behind radix hole) (registers_in registers texts) (digits_in letters text digits) found in
    omega (arith, fields-long radix hole registers texts first.0 first.2)

-- ---- sums

abbrev AreOf : List RowTerm → List RegisterTerm → Type 0
AreOf terms registers = AllZip (λ t r. is_of t r ≡ true) terms registers

abbrev terms_clash : List RowTerm → List RowTerm → Bool
terms_clash [] [] = true
terms_clash [] (u ∷ others) = false
terms_clash (t ∷ terms) [] = false
terms_clash (t ∷ terms) (u ∷ others) = (same_bool t.is_minus u.is_minus && same_letter t.letter u.letter) && terms_clash terms others

same_bool-both : (a b c : Bool) → same_bool a c ≡ true → same_bool b c ≡ true → same_bool a b ≡ true
same_bool-both true true c one two = refl
same_bool-both false false c one two = refl
same_bool-both true false true one two = cc
same_bool-both true false false one two = cc
same_bool-both false true true one two = cc
same_bool-both false true false one two = cc

same_letter-both : (a b c : RegisterLetter) → same_letter a c ≡ true → same_letter b c ≡ true → same_letter a b ≡ true
same_letter-both A A c one two = refl
same_letter-both B B c one two = refl
same_letter-both X X c one two = refl
same_letter-both A B A one two = cc
same_letter-both A B B one two = cc
same_letter-both A B X one two = cc
same_letter-both A X A one two = cc
same_letter-both A X B one two = cc
same_letter-both A X X one two = cc
same_letter-both B A A one two = cc
same_letter-both B A B one two = cc
same_letter-both B A X one two = cc
same_letter-both B X A one two = cc
same_letter-both B X B one two = cc
same_letter-both B X X one two = cc
same_letter-both X A A one two = cc
same_letter-both X A B one two = cc
same_letter-both X A X one two = cc
same_letter-both X B A one two = cc
same_letter-both X B B one two = cc
same_letter-both X B X one two = cc

term-clash : (t u : RowTerm) (r : RegisterTerm) → is_of t r ≡ true → is_of u r ≡ true → (same_bool t.is_minus u.is_minus && same_letter t.letter u.letter) ≡ true
term-clash t u r one two = both_true _ _
    (same_bool-both t.is_minus u.is_minus r.is_minus (left_true _ (same_letter t.letter r.letter) one) (left_true _ (same_letter u.letter r.letter) two))
    (same_letter-both t.letter u.letter r.letter (right_true (same_bool t.is_minus r.is_minus) _ one) (right_true (same_bool u.is_minus r.is_minus) _ two))

terms-clash : (terms others : List RowTerm) (registers : List RegisterTerm) → AreOf terms registers → AreOf others registers → terms_clash terms others ≡ true
terms-clash [] [] registers one two = refl
terms-clash [] (u ∷ others) [] one two = absurd two
terms-clash [] (u ∷ others) (r ∷ registers) one two = absurd one
terms-clash (t ∷ terms) [] [] one two = absurd one
terms-clash (t ∷ terms) [] (r ∷ registers) one two = absurd two
terms-clash (t ∷ terms) (u ∷ others) [] one two = absurd one
terms-clash (t ∷ terms) (u ∷ others) (r ∷ registers) one two = both_true _ _ (term-clash t u r one.0 two.0) (terms-clash terms others registers one.1 two.1)

reversed-onto : (terms more : List RowTerm) (registers last : List RegisterTerm) → AreOf terms registers → AreOf more last → AreOf (reverse_aux terms more) (reverse_aux registers last)
reversed-onto [] more [] last one two = two
reversed-onto [] more (r ∷ registers) last one two = absurd one
reversed-onto (t ∷ terms) more [] last one two = absurd one
reversed-onto (t ∷ terms) more (r ∷ registers) last one two = reversed-onto terms (t ∷ more) registers (r ∷ last) one.1 (one.0, two)

reversed : (terms : List RowTerm) (registers : List RegisterTerm) → AreOf terms registers → AreOf (reverse terms) (reverse registers)
reversed terms registers are = reversed-onto terms [] registers [] are tt

are-of : (terms : List RowTerm) (registers : List RegisterTerm) (digits : Digits) → IsSome (digits_of_terms terms registers digits) → AreOf terms registers
are-of [] [] digits found = tt
are-of [] (r ∷ registers) digits found = cc
are-of (t ∷ terms) [] digits found = cc
are-of (t ∷ terms) (r ∷ registers) digits found =
    let first = if_some (is_of t r) (digits_of_terms terms registers (with_digit t.digit r.digit digits)) found in
    (first.0, are-of terms registers (with_digit t.digit r.digit digits) first.1)

-- the registers are those of the terms, in this order or the other
abbrev AreOfEither : List RowTerm → List RegisterTerm → Type 0
AreOfEither terms registers = AreOf terms registers ⊎ AreOf terms (reverse registers)

or_right : (a b : Bool) → b ≡ true → (a || b) ≡ true
or_right true b is = refl
or_right false b is = is

or_left : (a b : Bool) → a ≡ true → (a || b) ≡ true
or_left true b is = refl
or_left false b is = cc

either-clash : (terms others : List RowTerm) (registers : List RegisterTerm) → AreOfEither terms registers → AreOfEither others registers → (terms_clash terms others || terms_clash terms (reverse others)) ≡ true
either-clash terms others registers (inl one) (inl two) = or_left _ _ (terms-clash terms others registers one two)
either-clash terms others registers (inr one) (inr two) = or_left _ _ (terms-clash terms others (reverse registers) one two)
either-clash terms others registers (inr one) (inl two) = or_right _ _ (terms-clash terms (reverse others) (reverse registers) one (reversed others registers two))
either-clash terms others registers (inl one) (inr two) =
    let back = subst (AreOf (reverse others)) (reverse-reverse registers) (reversed others (reverse registers) two) in
    or_right _ _ (terms-clash terms (reverse others) registers one back)

abbrev found_with : Summed → Digits → Found
found_with sum digits = record { digits = digits; operand = sum.constant }

constant-found : (terms : List RowTerm) (has : Bool) (digits : Digits) (sum : Summed) → IsSome (found_in_sum terms has digits sum)
    → (same_bool (is_some sum.constant) has ≡ true) × AreOf terms sum.registers
constant-found terms has digits sum found =
    let first = if_some (same_bool (is_some sum.constant) has) (option_map (found_with sum) (digits_of_terms terms sum.registers digits)) found in
    (first.0, are-of terms sum.registers digits (mapped (found_with sum) (digits_of_terms terms sum.registers digits) first.1))

sum-found : (terms : List RowTerm) (has : Bool) (digits : Digits) (sum : Summed) → IsSome (found_in_sum terms has digits sum) ⊎ IsSome (found_in_sum terms has digits (turned_sum sum))
    → (same_bool (is_some sum.constant) has ≡ true) × AreOfEither terms sum.registers
sum-found terms has digits sum (inl found) = let first = constant-found terms has digits sum found in (first.0, inl first.1)
sum-found terms has digits sum (inr found) = let first = constant-found terms has digits (turned_sum sum) found in (first.0, inr first.1)

-- ---- shapes

abbrev shapes_clash : Shape → Shape → Bool
shapes_clash (fields pattern) (fields other) = operand_count pattern == operand_count other && registers_clash pattern.registers other.registers
shapes_clash (summed terms has) (summed others constant) = same_bool has constant && (terms_clash terms others || terms_clash terms (reverse others))
shapes_clash shape other = true

-- a shape fits operands, as they stand or turned round
abbrev IsFoundIn : Radix → Digits → Operands → Shape → Type 0
IsFoundIn radix digits operands shape = IsSome (found_in radix shape operands digits) ⊎ IsSome (found_in radix shape (turned operands) digits)

either_way : {P : Type 0} → P ⊎ P → P
either_way (inl p) = p
either_way (inr p) = p

same_number : (m n : ℕ) → m ≡ n → (m == n) ≡ true
same_number m n same = grind (arith, nat_tests)

same_bool-swap : (a b : Bool) → same_bool a b ≡ true → same_bool b a ≡ true
same_bool-swap true true same = refl
same_bool-swap true false same = cc
same_bool-swap false true same = cc
same_bool-swap false false same = refl

fields-clash : (radix : Radix) (digits : Digits) (texts : List (List ℕ)) (pattern other : Pattern) → IsSome (found_in_fields radix pattern texts digits) → IsSome (found_in_fields radix other texts digits)
    → shapes_clash (fields pattern) (fields other) ≡ true
fields-clash radix digits texts pattern other one two =
    let first = fields-long radix pattern.hole pattern.registers texts digits one in
    let second = fields-long radix other.hole other.registers texts digits two in
    both_true _ _ (same_number _ _ (sym first ∙ second))
    (registers-clash (found_behind radix pattern.hole) (found_behind radix other.hole) pattern.registers other.registers texts digits digits one two)

sums-clash : (digits : Digits) (sum : Option Summed) (terms others : List RowTerm) (has constant : Bool)
    → IsSome (option_and_then (found_in_sum terms has digits) sum) ⊎ IsSome (option_and_then (found_in_sum terms has digits) (option_map turned_sum sum))
    → IsSome (option_and_then (found_in_sum others constant digits) sum) ⊎ IsSome (option_and_then (found_in_sum others constant digits) (option_map turned_sum sum))
    → shapes_clash (summed terms has) (summed others constant) ≡ true
sums-clash digits None terms others has constant one two = let none = either_way one in cc
sums-clash digits (Some sum) terms others has constant one two =
    let first = sum-found terms has digits sum one in
    let second = sum-found others constant digits sum two in
    both_true _ _
    (same_bool-both has constant (is_some sum.constant) (same_bool-swap _ has first.0) (same_bool-swap _ constant second.0))
    (either-clash terms others sum.registers first.1 second.1)

shape-clash : (radix : Radix) (digits : Digits) (operands : Operands) (shape other : Shape) → IsFoundIn radix digits operands shape → IsFoundIn radix digits operands other → shapes_clash shape other ≡ true
shape-clash radix digits operands (fields pattern) (fields other) one two = fields-clash radix digits operands.texts pattern other (either_way one) (either_way two)
shape-clash radix digits operands (summed terms has) (summed others constant) one two = sums-clash digits operands.sum terms others has constant one two
shape-clash radix digits operands (fields pattern) (summed others constant) one two = refl
shape-clash radix digits operands (fields pattern) unread one two = refl
shape-clash radix digits operands (summed terms has) (fields other) one two = refl
shape-clash radix digits operands (summed terms has) unread one two = refl
shape-clash radix digits operands unread other one two = refl

-- ---- the table

abbrev rows_clash : RowForm → RowForm → Bool
rows_clash row other = shapes_clash row.shape other.shape

abbrev names_clash : Operation → Operation → Bool
names_clash o other = texts_clash o.name other.name

shape_fits : (radix : Radix) (digits : Digits) (operands : Operands) (row : RowForm) → Fits radix digits operands row → IsFoundIn radix digits operands row.shape
shape_fits radix digits operands row (inl fits) = inl (mapped (form_found row) (found_in radix row.shape operands digits) fits)
shape_fits radix digits operands row (inr fits) = inr (mapped (form_found row) (found_in radix row.shape (turned operands) digits) fits)

different : (b : Bool) → b ≡ true → b ≡ false → ⊥
different b is not = cc

rows_apart : (radix : Radix) (digits : Digits) (operands : Operands) (row other : RowForm) → rows_clash row other ≡ false → Fits radix digits operands row → Fits radix digits operands other → ⊥
rows_apart radix digits operands row other none one two =
    different (rows_clash row other) (shape-clash radix digits operands row.shape other.shape (shape_fits radix digits operands row one) (shape_fits radix digits operands other two)) none

no_rows_clash : list_all (λ o. no_clash rows_clash o.forms) cp_operations ≡ true
unfolding cp_operations
no_rows_clash = refl

no_names_clash : no_clash names_clash cp_operations ≡ true
unfolding cp_operations
no_names_clash = refl

pub one_row_fits : OneRowFits
one_row_fits radix digits operands = λ k d within.
    pairs_apart rows_clash _ (rows_apart radix digits operands) _ (AllPass-from_list_all (λ o. no_clash rows_clash o.forms) cp_operations no_rows_clash k d within)

pub one_is_named : OneIsNamed
one_is_named text =
    pairs_apart names_clash (λ o other. Names text o → Names text other → ⊥)
    (λ o other none one two. different (names_clash o other) (text-clash o.name other.name text _ _ one two) none)
    cp_operations no_names_clash

pub rows_stand_together : RowsStandTogether
rows_stand_together =
    pairs_apart names_clash (λ o other. o.name ≢ other.name)
    (λ o other none same. different (names_clash o other) (subst (λ name. texts_clash o.name name ≡ true) same (text-self o.name)) none)
    cp_operations no_names_clash
