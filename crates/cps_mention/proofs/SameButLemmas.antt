-- What tests of flags, digits and values say.
use Rattle.std.proofs.Common.{◌≡◌, ◌≤◌, ℕ, suc, ◌+◌, ◌-◌, true, List, [], ◌∷◌, ◌++◌, map, take, length, sym, ap, ◌∙◌, Option, Some, arith}
use Rattle.std.specs.Prelude.{slice_get}
use Rattle.std.proofs.lemmas.List.{take_all, map-append}
use Rattle.cps_text.specs.declared.name.Name.{Name}
use Rattle.cps_final.specs.Finals.{Finals}
use Rattle.cps_list.specs.Symbols.{value_of}
use Rattle.cps_list.proofs.ViewLemmas.{take-next}
use Rattle.cps_mention.specs.declared.calling.Calling.{Calling}
use Rattle.cps_mention.specs.SameBut.{called}
use Rattle.std.specs.Cmp.{booleans_Decides, unsigned_Decides}
use Rattle.std.specs.Option.{option_eq}
use Rattle.std.proofs.lemmas.Bool.{and_parts, and_from}
use Rattle.cps_expr.specs.declared.value.Value.{Value}
use Rattle.cps_expr.specs.contracts.value.ValuePartialEq.TheImpl.{eq-value as value_eq}
use Rattle.cps_state.specs.declared.flags.Flags.{Flags}
use Rattle.cps_state.specs.contracts.flags.FlagsPartialEq.TheImpl.{eq-value as flags_eq}
use Rattle.cps_final.specs.declared.octal_digits.OctalDigits.{OctalDigits}
use Rattle.cps_final.specs.contracts.octal_digits.OctalDigitsPartialEq.TheImpl.{eq-value as digits_eq}
use Rattle.cps_final.proofs.DecideLemmas.{option-decides, decides}
use Rattle.cps_final.proofs.AnswerLemmas.{value-decides}

pub flags-is : (a b : Flags) → (flags_eq.it) a b ≡ true → b ≡ a
flags-is a b h =
    let one = and_parts _ _ h in
    let two = and_parts _ _ one.1 in
    let three = and_parts _ _ two.1 in
    let four = and_parts _ _ three.1 in
    let five = and_parts _ _ four.1 in
    let six = and_parts _ _ five.1 in
    let seven = and_parts _ _ six.1 in
    let operand = (booleans_Decides a.operand b.operand).0 one.0 in
    let twice = (booleans_Decides a.twice b.twice).0 two.0 in
    let structure = (booleans_Decides a.structure b.structure).0 three.0 in
    let location = (booleans_Decides a.location b.location).0 four.0 in
    let operation = (booleans_Decides a.operation b.operation).0 five.0 in
    let cut = (booleans_Decides a.cut b.cut).0 six.0 in
    let undefined = (booleans_Decides a.undefined b.undefined).0 seven.0 in
    let width = (booleans_Decides a.width b.width).0 seven.1 in
    sym (λ i. record { operand = operand i; twice = twice i; structure = structure i; location = location i; operation = operation i; cut = cut i; undefined = undefined i; width = width i })

digits-are : (a b : OctalDigits) → (digits_eq.it) a b ≡ true → a ≡ b
digits-are a b h =
    let both = and_parts _ _ h in
    let count = (unsigned_Decides a.count b.count).0 both.0 in
    let number = (unsigned_Decides a.number b.number).0 both.1 in
    λ i. record { count = count i; number = number i }

digits-itself : (a : OctalDigits) → (digits_eq.it) a a ≡ true
digits-itself a = and_from _ _ ((unsigned_Decides a.count a.count).1 (λ i. a.count)) ((unsigned_Decides a.number a.number).1 (λ i. a.number))

pub digits-is : (a b : Option OctalDigits) → option_eq (digits_eq.it) a b ≡ true → b ≡ a
digits-is a b h = sym ((option-decides (digits_eq.it) (decides (digits_eq.it) digits-are digits-itself) a b).0 h)

pub value-is : (a b : Option Value) → option_eq (value_eq.it) a b ≡ true → b ≡ a
value-is a b h = sym ((option-decides (value_eq.it) value-decides a b).0 h)

-- ---- one more line, and one more symbol

next : (i : ℕ) → i + 1 ≡ suc i
next i = omega arith

here : (i : ℕ) → i + 1 - 1 ≡ i
here i = omega arith

module _ {X Y : Type 0} (f : X → Y) where
  map-next : (xs : List X) (i : ℕ) (x : X) → slice_get xs i ≡ Some x → map f (take (i + 1) xs) ≡ map f (take i xs) ++ f x ∷ []
  map-next xs i x is =
      ap (λ n. map f (take n xs)) (next i)
      ∙ ap (map f) (take-next xs i x is)
      ∙ map-append f (take i xs) (x ∷ [])

  pub same-next : (xs ys : List X) (i : ℕ) (x y : X) → slice_get xs (i + 1 - 1) ≡ Some x → slice_get ys (i + 1 - 1) ≡ Some y → f y ≡ f x
      → map f (take i ys) ≡ map f (take i xs) → map f (take (i + 1) ys) ≡ map f (take (i + 1) xs)
  same-next xs ys i x y x-is y-is same before =
      map-next ys i y (ap (slice_get ys) (sym (here i)) ∙ y-is)
      ∙ (λ j. before j ++ same j ∷ [])
      ∙ sym (map-next xs i x (ap (slice_get xs) (sym (here i)) ∙ x-is))

  pub same-all : (xs ys : List X) (i : ℕ) → length xs ≤ i → length ys ≤ i → map f (take i ys) ≡ map f (take i xs) → map f ys ≡ map f xs
  same-all xs ys i x-all y-all same = sym (ap (map f) (take_all i ys y-all)) ∙ same ∙ ap (map f) (take_all i xs x-all)

-- a symbol has the value that it had
pub kept-value : (calling : Calling) (name : Name) (was now before after : Finals) → was ≡ before → now ≡ after → value_of now (called calling name) ≡ value_of was name
    → value_of after (called calling name) ≡ value_of before name
kept-value calling name was now before after was-is now-is kept = sym (ap (λ finals. value_of finals (called calling name)) now-is) ∙ kept ∙ ap (λ finals. value_of finals name) was-is
