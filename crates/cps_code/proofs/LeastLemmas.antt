-- The first number that passes a test is the least with its property.
use Rattle.std.proofs.Common.{◌≡◌, ℕ, zero, suc, ◌+◌, ◌*◌, ◌/◌, ◌<◌, ◌≤◌, Bool, true, false, cond, refl, ◌∙◌, arith, ⊎_elim}
use Rattle.std.proofs.lemmas.Bool.{cases_eq}
use Rattle.std.proofs.lemmas.Bool.Decides.{nat_tests}
use Rattle.cps_code.specs.Least.{IsLeast, first_from}
use Rattle.cps_code.specs.Place.{MayBegin, may_begin, start_of}

cond_true : (b : Bool) (x y : ℕ) → b ≡ true → cond b x y ≡ x
cond_true b x y is = rw is refl

cond_false : (b : Bool) (x y : ℕ) → b ≡ false → cond b x y ≡ y
cond_false b x y is = rw is refl

pub first_from-is : (passes : ℕ → Bool) (from count n : ℕ) → from ≤ n → n ≤ from + count → passes n ≡ true
    → ((m : ℕ) → from ≤ m → m < n → passes m ≡ false) → first_from passes from count ≡ n
unfolding first_from
first_from-is passes from zero n low high here before = omega arith
first_from-is passes from (suc count) n low high here before = ⊎_elim
    (λ (same : from ≡ n). cond_true (passes from) from (first_from passes (from + 1) count) (rw same here) ∙ same)
    (λ (other : from ≡ n → ⊥).
    let less : from < n = omega arith in
    cond_false (passes from) from (first_from passes (from + 1) count) (before from (omega arith) less)
    ∙ first_from-is passes (from + 1) count n (omega arith) (omega arith) here (λ m l h. before m (omega arith) h))
    (cases_eq from n)

may : (from bits at : ℕ) (forced : Bool) → MayBegin from bits forced at → may_begin bits forced at ≡ true
may from bits at true begins =
    let border = begins.at_border in let room = begins.has_room in let word = begins.begins_word refl in grind (arith, nat_tests)
may from bits at false begins =
    let border = begins.at_border in let room = begins.has_room in grind (arith, nat_tests)

may-back : (from bits at : ℕ) (forced : Bool) → from ≤ at → may_begin bits forced at ≡ true → MayBegin from bits forced at
may-back from bits at true low passes = record {
  not_before = low;
  at_border = λ some. grind (arith, nat_tests);
  has_room = grind (arith, nat_tests);
  begins_word = λ h. grind (arith, nat_tests);
}
may-back from bits at false low passes = record {
  not_before = low;
  at_border = λ some. grind (arith, nat_tests);
  has_room = grind (arith, nat_tests);
  begins_word = λ h. cc;
}

not_true : (b : Bool) → (b ≡ true → ⊥) → b ≡ false
not_true true h = absurd (h refl)
not_true false h = refl

-- the least place is the one that the first test finds
pub start_of-least : (from bits n : ℕ) (forced : Bool) → bits ≤ 60 → IsLeast (MayBegin from bits forced) n → start_of from bits forced ≡ n
start_of-least from bits n forced fits least =
    let holds = least.holds in
    let low = holds.not_before in
    let border : MayBegin from bits forced (60 * ((from + 59) / 60)) = record {
      not_before = omega arith;
      at_border = λ some. omega arith;
      has_room = omega arith;
      begins_word = λ h. omega arith;
    } in
    let near : n ≤ 60 * ((from + 59) / 60) = least.least (60 * ((from + 59) / 60)) border in
    first_from-is (may_begin bits forced) from 60 n low (omega arith) (may from bits n forced holds)
    (λ m l h. not_true (may_begin bits forced m) (λ passes. let other : n ≤ m = least.least m (may-back from bits m forced l passes) in omega arith))
