-- Operations by the first letter of their names.
use Rattle.std.proofs.Common.{◌≡◌, ℕ, Bool, true, false, cond, eqb, List, [], ◌∷◌, Option, None, refl, sym, ap, ◌∙◌}
use Rattle.std.specs.Option.{option_or}
use Rattle.std.specs.Prelude.{option_map, option_and_then, not, slice_index, codes}
use Rattle.std.specs.List.{list_all}
use Rattle.cps_text.specs.Text.{among, capital, is_digit}
use Rattle.cps_code.specs.declared.digits.Digits.{Digits}
use Rattle.cps_code.specs.Digits.{first_digit, with_digit, with_character, digits_in}
use Rattle.cps_code.specs.Register.{digit_value}
use Rattle.cps_code.specs.Rows.{Operation, Named, named}
use Rattle.cps_code.specs.Table.{cp_operations, instruction_named}
use Rattle.cps_code.specs.Code.Operations.{beginning_with}
use Rattle.cps_code.proofs.BothTrue.{left_true, right_true}

-- a name begins with no letter that stands for a digit
abbrev begins_plainly : Operation → Bool
begins_plainly o = not (among (codes "ijk") (slice_index o.name 0))

another : (letter character : ℕ) (digits : Digits) → not (among (codes "ijk") letter) ≡ true → eqb letter (capital character) ≡ false → with_character letter character digits ≡ None
another letter character digits plain other = by_cases (among (codes "ijk") letter) (eqb letter (capital character)) plain other
  where
    by_cases : (a b : Bool) → not a ≡ true → b ≡ false
        → cond a (cond (is_digit 8 character) (Option.Some (with_digit letter (digit_value character) digits)) None) (cond b (Option.Some digits) None) ≡ None
    by_cases true b p q = cc
    by_cases false true p q = cc
    by_cases false false p q = refl

no_name : (name text : List ℕ) (character : ℕ) (digits : Digits) → not (among (codes "ijk") (slice_index name 0)) ≡ true → eqb (slice_index name 0) (capital character) ≡ false
    → digits_in name (character ∷ text) digits ≡ None
no_name [] text character digits plain other = refl
no_name (letter ∷ name) text character digits plain other = ap (option_and_then (digits_in name text)) (another letter character digits plain other)

module _ (character : ℕ) (text : List ℕ) where
  abbrev onto : Operation → Option Named → Option Named
  onto o rest = option_or (option_map (λ digits. record { digits = digits; forms = o.forms }) (digits_in o.name (character ∷ text) (first_digit o.f))) rest

  kept : (o : Operation) (operations : List Operation) (b : Bool) → b ≡ eqb (slice_index o.name 0) (capital character) → begins_plainly o ≡ true
      → named (cond b (o ∷ operations) operations) (character ∷ text) ≡ onto o (named operations (character ∷ text))
  kept o operations true is plain = refl
  kept o operations false is plain =
      sym (ap (λ found. option_or (option_map (λ digits. record { digits = digits; forms = o.forms }) found) (named operations (character ∷ text)))
      (no_name o.name text character (first_digit o.f) plain (sym is)))

  by_letter : (operations : List Operation) → list_all begins_plainly operations ≡ true
      → named (beginning_with (capital character) operations) (character ∷ text) ≡ named operations (character ∷ text)
  by_letter [] plain = refl
  by_letter (o ∷ operations) plain =
      kept o (beginning_with (capital character) operations) (eqb (slice_index o.name 0) (capital character)) refl (left_true (begins_plainly o) (list_all begins_plainly operations) plain)
      ∙ ap (onto o) (by_letter operations (right_true (begins_plainly o) (list_all begins_plainly operations) plain))

all_plain : list_all begins_plainly cp_operations ≡ true
unfolding cp_operations
all_plain = refl

pub named_by_letter : (character : ℕ) (text : List ℕ) → named (beginning_with (capital character) cp_operations) (character ∷ text) ≡ instruction_named (character ∷ text)
named_by_letter character text = by_letter character text cp_operations all_plain

pub no_empty_name : instruction_named [] ≡ None
unfolding cp_operations
no_empty_name = refl
