-- The number that bits make.
use Rattle.std.proofs.Common.{◌≡◌, ℕ, zero, suc, ◌+◌, ◌-◌, ◌/◌, ◌^◌, ◌<◌, ◌≤◌, refl, sym, ◌∙◌, arith}
use Rattle.std.proofs.lemmas.Nat.{shr-shr}
use Rattle.std.proofs.Math.Nat.{div-eq_of_lt}
use Rattle.cps_code.specs.Bits.{bit_from_left, number_of_bits}

pub number_of_bits-same : (f g : ℕ → ℕ) (count : ℕ) → ((at : ℕ) → at < count → f at ≡ g at) → number_of_bits f count ≡ number_of_bits g count
unfolding number_of_bits
number_of_bits-same f g zero same = refl
number_of_bits-same f g (suc count) same =
    let front = number_of_bits-same f g count (λ at h. same at (omega arith)) in
    let last = same count (omega arith) in
    cc

-- the first bits of a number are what is left of it when the others are cut off
number_of_bits-front : (number width count : ℕ) → number < 2 ^ width → count ≤ width → number_of_bits (bit_from_left width number) count ≡ number / 2 ^ (width - count)
unfolding number_of_bits
number_of_bits-front number width zero small within =
    let whole : width - 0 ≡ width = omega arith in
    let none = div-eq_of_lt small in
    rw whole (sym none)
number_of_bits-front number width (suc count) small within =
    let front = number_of_bits-front number width count small (omega arith) in
    let next : width - 1 - count + 1 ≡ width - count = omega arith in
    let cut : number / 2 ^ (width - 1 - count) / 2 ^ 1 ≡ number / 2 ^ (width - 1 - count + 1) = shr-shr number (width - 1 - count) 1 in
    let cut' = rw next at cut in
    let last : width - suc count ≡ width - 1 - count = omega arith in
    rw (last, front, ← cut') (omega arith)

pub number_of_bits-whole : (number width : ℕ) → number < 2 ^ width → number_of_bits (bit_from_left width number) width ≡ number
number_of_bits-whole number width small =
    let none : width - width ≡ 0 = omega arith in
    let whole = number_of_bits-front number width width small (omega arith) in
    let one : number / 2 ^ 0 ≡ number = omega arith in
    rw none at whole ∙ one
