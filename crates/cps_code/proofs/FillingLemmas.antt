-- What fills the bits that are skipped.
use Rattle.std.proofs.Common.{◌≡◌, ℕ, zero, suc, ◌+◌, ◌-◌, ◌*◌, ◌/◌, ◌%◌, ◌^◌, ◌<◌, ◌≤◌, cond, eqb, ltb, Bool, true, false, Option, None, Some, refl, sym, ap, ◌∙◌, arith, ⊎_elim}
use Rattle.std.specs.Int.{bit_at}
use Rattle.std.proofs.lemmas.Nat.{pow-add}
use Rattle.std.proofs.lemmas.Nat.Bits.{bit_at-zero, bit_at_cat_low, bit_at_cat_high}
use Rattle.std.proofs.lemmas.Bool.{cases_lt}
use Rattle.std.proofs.lemmas.Bool.Decides.{nat_tests}
use Rattle.std.proofs.Math.Nat.{pow-le-pow_right}
use Rattle.cps_code.specs.Bits.{bit_from_left, number_of_bits}
use Rattle.cps_code.specs.declared.place.Filling.{Filling}
use Rattle.cps_code.specs.Place.{IsFilling, skipped, skipped_bit, pass, passes}
use Rattle.cps_code.proofs.NumberLemmas.{number_of_bits-same, number_of_bits-whole}

-- a bit of passes, from the right
passes-bit : (count at : ℕ) → bit_at (passes count) at ≡ cond (ltb (at / 15) count) (bit_at pass (at % 15)) 0
passes-bit zero at = grind (arith, nat_tests, bit_at-zero at)
passes-bit (suc count) at = ⊎_elim
    (λ (low : at < 15). let e = bit_at_cat_low (passes count) 15 pass at low in grind (arith, nat_tests))
    (λ (high : 15 ≤ at). let e = bit_at_cat_high (passes count) 15 pass at (omega arith) high in let h = passes-bit count (at - 15) in grind (arith, nat_tests))
    (cases_lt at 15)

passes-lt : (count : ℕ) → passes count < 2 ^ (15 * count)
passes-lt zero = omega arith
passes-lt (suc count) = let h = passes-lt count in let e : 15 * suc count ≡ 15 * count + 15 = omega arith in rw (e, pow-add) (omega arith)

-- a bit that is skipped, `after` bits before the place where the next bits begin
skipped-bit : (from to at : ℕ) → from ≤ at → at < to → to % 15 ≡ 0
    → cond (ltb ((to - 1 - at) / 15) ((to - from) / 15)) (bit_at pass ((to - 1 - at) % 15)) 0 ≡ skipped_bit from at
skipped-bit from to at low high border =
    let same : (to - 1 - at) % 15 ≡ 14 - at % 15 = omega arith in
    ⊎_elim
    (λ (out : at - at % 15 < from). let far : (to - from) / 15 ≤ (to - 1 - at) / 15 = omega arith in grind (arith, nat_tests))
    (λ (whole : from ≤ at - at % 15). let near : (to - 1 - at) / 15 < (to - from) / 15 = omega arith in grind (arith, nat_tests))
    (cases_lt (at - at % 15) from)

pub filled : (word from to : ℕ) → from < to → to ≤ 60 → 0 < from → to % 15 ≡ 0
    → IsFilling (60 * word + from) (60 * word + to) (Some (record { first = from; width = to - from; number = passes ((to - from) / 15) }))
filled word from to some within begun border =
    let count = (to - from) / 15 in
    let fits : 2 ^ (15 * count) ≤ 2 ^ (to - from) = pow-le-pow_right {n = 2} (omega arith) {i = 15 * count} {j = to - from} (omega arith) in (
      omega arith,
      omega arith,
      omega arith,
      omega (arith, passes-lt count),
      λ at low high.
          let place : to - from - 1 - (at - (60 * word + from)) ≡ 60 * word + to - 1 - at = omega arith in
          let wide : 60 * word + to - (60 * word + from) ≡ to - from = omega arith in
          let skipped = skipped-bit (60 * word + from) (60 * word + to) at low high (omega arith) in
          rw (place, passes-bit count (60 * word + to - 1 - at)) (rw wide at skipped),
    )

chosen_first : {X : Type 0} (b : Bool) (x y : X) → b ≡ true → x ≡ cond b x y
chosen_first b x y is = rw is refl

chosen_second : {X : Type 0} (b : Bool) (x y : X) → b ≡ false → y ≡ cond b x y
chosen_second b x y is = rw is refl

filling_parts : (filling : Filling) (first width number : ℕ) → filling.first ≡ first → filling.width ≡ width → filling.number ≡ number
    → filling ≡ record { first = first; width = width; number = number }
filling_parts filling first width number p q r =
    let with_first : ℕ → Filling = λ x. record { first = x; width = filling.width; number = filling.number } in
    let with_width : ℕ → Filling = λ x. record { first = first; width = x; number = filling.number } in
    let with_number : ℕ → Filling = λ x. record { first = first; width = width; number = x } in
    ap with_first p ∙ ap with_width q ∙ ap with_number r

-- what fills is one number
pub skipped-is : (from to : ℕ) (filling : Option Filling) → IsFilling from to filling → filling ≡ skipped from to
skipped-is from to None same = chosen_first (eqb from to) None (Some _) (grind (arith, nat_tests))
skipped-is from to (Some filling) is =
    let less = is.0 in let first = is.1 in let width = is.2 in let small = is.3 in let bits = is.4 in
    let number : number_of_bits (λ n. skipped_bit from (from + n)) filling.width ≡ filling.number
    = number_of_bits-same (λ n. skipped_bit from (from + n)) (bit_from_left filling.width filling.number) filling.width
    (λ at within. let here : from + at - from ≡ at = omega arith in sym (rw here at (bits (from + at) (omega arith) (omega arith))))
    ∙ number_of_bits-whole filling.number filling.width small in
    let number' = rw width at number in
    let parts = filling_parts filling (from % 60) (to - from) (number_of_bits (λ n. skipped_bit from (from + n)) (to - from)) first width (sym number') in
    chosen_second (eqb from to) None (Some filling) (grind (arith, nat_tests)) ∙ ap (λ f. cond (eqb from to) None (Some f)) parts
