-- A word that is claimed whole.
use Rattle.std.proofs.Common.{◌≡◌, ℕ, ◌<◌, ◌&&◌, ◌==◌, ◌||◌, Bool, true, false, not, inl, inr, refl, sym, ap, ◌∙◌, arith, cond, List, [], ◌∷◌, length, None, Some, Option}
use Rattle.std.specs.Prelude.{slice_get, slice_index, option_map}
use Rattle.std.specs.List.{list_any}
use Rattle.std.specs.Option.{option_map_or}
use Rattle.std.proofs.lemmas.Bool.{and_parts, and_from, or_cases, eqb-true}
use Rattle.std.proofs.lemmas.List.{ext_get_or}
use Rattle.std.proofs.lemmas.Option.{get_or_from_slice_get}
use Rattle.cps_expr.specs.declared.machine.Machine.{Machine}
use Rattle.cps_expr.specs.declared.machine.Machine.TheVariants.{Cp, Pp}
use Rattle.cps_code.specs.Image.{Piece}
use Rattle.cps_list.proofs.FrontLemmas.{octal-length}
use Rattle.cps_claims.specs.Words.{size_of}
use Rattle.cps_claims.specs.Claims.{Claimed, Words, known, digit_at, agrees, differs}
use Rattle.cps_claims.specs.Counts.{is_for, is_given}
use Rattle.cps_compare.specs.Comparison.{form_of}
use Rattle.cps_compare.specs.Differences.{digits_of, word_of, digits_in}
use Rattle.cps_disassembly.specs.declared.selection.Selection.{Selection}
use Rattle.cps_disassembly.specs.Makes.{is_within, is_wanted, is_wrong, IsWhole}

or-true : (b : Bool) → (b || true) ≡ true
or-true true = refl
or-true false = refl

-- whatever passes one test passes another
any-weaker : (p q : Claimed → Bool) → ((claim : Claimed) → p claim ≡ true → q claim ≡ true) → (claims : List Claimed)
    → list_any p claims ≡ true → list_any q claims ≡ true
any-weaker p q weaker [] some = some
any-weaker p q weaker (claim ∷ claims) some =
    elim (or_cases (p claim) (list_any p claims) some) [
      | inl here ↦ ap (λ b. b || list_any q claims) (weaker claim here)
      | inr behind ↦ ap (λ b. q claim || b) (any-weaker p q weaker claims behind) ∙ or-true (q claim)
    ]

or-parts : (a b : Bool) → (a || b) ≡ false → (a ≡ false) × (b ≡ false)
or-parts true b none = cc
or-parts false b none = (refl, none)

-- some claim passes a test, and none passes another
find-one : (p q : Claimed → Bool) (claims : List Claimed) → list_any p claims ≡ true → list_any q claims ≡ false
    → (claim : Claimed) × (p claim ≡ true) × (q claim ≡ false)
find-one p q [] some none = cc
find-one p q (claim ∷ claims) some none =
    let parts = or-parts (q claim) (list_any q claims) none in
    elim (or_cases (p claim) (list_any p claims) some) [
      | inl here ↦ (claim, here, parts.0)
      | inr behind ↦ find-one p q claims behind parts.1
    ]

not-false : (a b : Bool) → a ≡ true → (a && not b) ≡ false → b ≡ true
not-false true true is none = refl
not-false true false is none = cc
not-false false b is none = cc

agrees-digit : (found : Option ℕ) (digit : ℕ) → option_map_or (λ other. other == digit) found false ≡ true → found ≡ Some digit
agrees-digit None digit is = cc
agrees-digit (Some other) digit is = ap Some (eqb-true other digit is)

-- a digit that is claimed stands where no word differs
digit-stands : (words : Words) (claims : List Claimed) (address place digit : ℕ)
    → list_any (λ claim. is_for address place claim && (claim.digit == digit)) (known claims) ≡ true
    → differs words claims address ≡ false → digit_at words address place ≡ Some digit
digit-stands words claims address place digit some none =
    let one = find-one (λ claim. is_for address place claim && (claim.digit == digit))
    (λ claim. (claim.address == address) && not (agrees words claim)) (known claims) some none in
    let claim = one.0 in
    let parts = and_parts (is_for address place claim) (claim.digit == digit) one.1 in
    let here = and_parts (claim.address == address) (claim.place == place) parts.0 in
    let agreed = not-false (claim.address == address) (agrees words claim) here.0 one.2 in
    ap (λ a. digit_at words a place) (sym (eqb-true claim.address address here.0))
    ∙ ap (digit_at words claim.address) (sym (eqb-true claim.place place here.1))
    ∙ agrees-digit (digit_at words claim.address claim.place) claim.digit agreed
    ∙ ap Some (eqb-true claim.digit digit parts.1)

size-some : (machine : Machine) → 0 < size_of (form_of machine)
size-some Cp = omega arith
size-some Pp = omega arith

digits-long : (machine : Machine) (word : ℕ) → length (digits_of machine word) ≡ size_of (form_of machine)
digits-long Cp word = octal-length 20 word
digits-long Pp word = octal-length 4 _

-- a word with these digits at all places is this word
whole-word : (machine : Machine) (found : Option ℕ) (digits : List ℕ) → length digits ≡ size_of (form_of machine)
    → ((place : ℕ) → place < size_of (form_of machine)
    → option_map_or (λ word. slice_get word place) (option_map (digits_of machine) found) None ≡ Some (slice_index digits place))
    → option_map (digits_of machine) found ≡ Some digits
whole-word machine None digits long each = let first = each 0 (size-some machine) in cc
whole-word machine (Some word) digits long each =
    let size = digits-long machine word in
    ap Some (ext_get_or 0 (digits_of machine word) digits (size ∙ sym long)
    (λ place below. get_or_from_slice_get (digits_of machine word) place (slice_index digits place) 0 (each place (omega (arith, size, below)))))

given-some : (claims : List Claimed) (address digit : ℕ)
    → list_any (λ claim. is_for address 0 claim && (claim.digit == digit)) (known claims) ≡ true → is_given claims address ≡ true
given-some claims address digit some =
    any-weaker (λ claim. is_for address 0 claim && (claim.digit == digit)) (λ claim. claim.address == address)
    (λ claim is. (and_parts (claim.address == address) (claim.place == 0) (and_parts (is_for address 0 claim) (claim.digit == digit) is).0).0)
    (known claims) some

none-differs : (wanted differing stands : Bool) → wanted ≡ true → cond wanted differing stands ≡ false → differing ≡ false
none-differs wanted differing stands is none = ap (λ b. cond b differing stands) (sym is) ∙ none

pub stands-whole : (selection : Selection) (claims : List Claimed) (pieces : List Piece) (address : ℕ) (digits : List ℕ)
    → is_within selection address ≡ true → IsWhole claims address (size_of (form_of selection.machine)) digits
    → is_wrong selection claims (digits_in selection.machine pieces) address ≡ false
    → digits_in selection.machine pieces address ≡ Some digits
stands-whole selection claims pieces address digits within whole right =
    let machine = selection.machine in
    let words = digits_in machine pieces in
    let given = given-some claims address _ (whole.each 0 (size-some machine)) in
    let same = none-differs (is_wanted selection claims address) (differs words claims address) _
    (and_from (is_within selection address) (is_given claims address) within given) right in
    whole-word machine (word_of machine pieces address) digits whole.long
    (λ place below. digit-stands words claims address place (slice_index digits place) (whole.each place below) same)

pub stands-none : (wanted differing stands : Bool) → wanted ≡ false → cond wanted differing stands ≡ false → stands ≡ false
stands-none wanted differing stands is none = ap (λ b. cond b differing stands) (sym is) ∙ none
