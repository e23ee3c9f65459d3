-- Rows, and what has no newline.
use Rattle.std.proofs.Common.{◌≡◌, ℕ, zero, suc, ◌+◌, ◌/◌, ◌%◌, ◌^◌, ◌<◌, ◌≤◌, Bool, ◌&&◌, List, [], ◌∷◌, ◌++◌, true, false, not, eqb, refl, subst, ◌∙◌, arith}
use Rattle.std.proofs.lemmas.Grind.{flat_map-append, common_steps}
use Rattle.std.proofs.lemmas.Bool.Decides.{nat_tests}
use Rattle.std.specs.List.{list_all}
use Rattle.std.specs.Char.{digit_value}
use Rattle.std.specs.Str.Parse.{AllDigits}
use Rattle.std.proofs.lemmas.List.Folds.{list_all-append}
use Rattle.std.proofs.lemmas.Fmt.{decimal_is_IsNumeral}
use Rattle.std.specs.Fmt.{decimal}
use Rattle.cps_text.specs.Octal.{octal}
use Rattle.cps_drift.specs.Drift.{IsDriftText, drift_row, has_no_newline, newline}
use Rattle.cps_drift.specs.Code.Rows.{IsPlain}

both : (a b : Bool) → a ≡ true → b ≡ true → (a && b) ≡ true
both a b p q = rw (p, q) refl

-- ---- what has no newline

pub plain-append : (a b : List ℕ) → IsPlain a → IsPlain b → IsPlain (a ++ b)
plain-append a b plain_a plain_b = list_all-append (λ byte. not (eqb byte newline)) a b ∙ both (has_no_newline a) (has_no_newline b) plain_a plain_b

digit-plain : (digit : ℕ) → 48 ≤ digit → IsPlain (digit ∷ [])
digit-plain digit high = grind (arith, nat_tests)

pub octal-plain : (digits number : ℕ) → IsPlain (octal digits number)
unfolding octal
octal-plain zero number = refl
octal-plain (suc digits) number =
    plain-append (octal digits (number / 8)) ((48 + number % 8) ∷ []) (octal-plain digits (number / 8)) (digit-plain (48 + number % 8) (omega arith))

value-plain : (byte : ℕ) (test : Bool) → eqb byte newline ≡ test → digit_value byte < 10 → IsPlain (byte ∷ [])
value-plain byte true is low = let same : byte ≡ newline = grind (arith, nat_tests) in absurd (omega (arith, subst (λ b. digit_value b < 10) same low))
value-plain byte false is low = rw is refl

digits-plain : (digits : List ℕ) → AllDigits 10 digits → IsPlain digits
digits-plain [] are = refl
digits-plain (digit ∷ digits) are =
    plain-append (digit ∷ []) digits (value-plain digit (eqb digit newline) refl are.0) (digits-plain digits are.1)

pub decimal-plain : (number : ℕ) → number < 2 ^ 64 → IsPlain (decimal number)
decimal-plain number few = let numeral = decimal_is_IsNumeral number few in digits-plain (decimal number) numeral.0.1

-- ---- a text with one row more

pub text-row : (old new row : List ℕ) → IsDriftText old → IsPlain row → new ≡ old ++ drift_row row → IsDriftText new
text-row old new row so_far plain is = record {
  told = so_far.told ++ row ∷ [];
  rows = grind (arith, common_steps, flat_map-append drift_row so_far.told (row ∷ []), so_far.rows, is);
  plain = list_all-append has_no_newline so_far.told (row ∷ [])
      ∙ both (list_all has_no_newline so_far.told) (list_all has_no_newline (row ∷ [])) so_far.plain (both (has_no_newline row) true plain refl);
}
