-- What is counted, one address more.
use Rattle.std.proofs.Common.{◌≡◌, ℕ, zero, suc, ◌+◌, ◌<◌, ◌≤◌, Bool, true, false, inl, inr, refl, arith, ltb, cond, List, [], ◌∷◌, ◌++◌, None, Some, sym, ap, ◌∙◌}
use Rattle.std.specs.List.{count_by, range_with_len}
use Rattle.std.specs.Option.{option_or}
use Rattle.std.proofs.lemmas.List.Sums.{sum_by-cons, sum_by_push}
use Rattle.std.proofs.lemmas.Bool.{cases_eq}
use Rattle.std.proofs.lemmas.List.Folds.{find-append}
use Rattle.cps_compare.specs.declared.survey.Tally.{Tally}
use Rattle.cps_compare.specs.Code.Surveys.{IsTally}

pub tally-more : (counts : ℕ → ℕ) (among : List ℕ) (address more : ℕ) (old new : Tally) → IsTally counts among old → more ≡ counts address
    → new.count ≡ old.count + more → new.first ≡ option_or old.first (cond (ltb 0 more) (Some address) None) → IsTally counts (among ++ address ∷ []) new
tally-more counts among address more old new was same count first = record {
  count = count ∙ (λ i. was.count i + same i) ∙ sym (sum_by_push counts among address);
  first = first ∙ (λ i. option_or (was.first i) (cond (ltb 0 (same i)) (Some address) None))
      ∙ sym (find-append (λ n. ltb 0 (counts n)) among (address ∷ []));
}

-- ---- none of a range

sums-none : (a b : ℕ) → a + b ≡ 0 → (a ≡ 0) × (b ≡ 0)
sums-none a b none = (omega arith, omega arith)

no-one : (b : Bool) → cond {A = ℕ} b 1 0 ≡ 0 → b ≡ false
no-one true is = cc
no-one false is = refl

pub none-counted : (test : ℕ → Bool) (low n at : ℕ) → low ≤ at → at < low + n → count_by test (range_with_len low n) ≡ 0 → test at ≡ false
none-counted test low zero at from below none = absurd (omega arith)
none-counted test low (suc n) at from below none =
    let parts = sums-none (cond (test low) 1 0) (count_by test (range_with_len (low + 1) n))
    (sym (sum_by-cons (λ x. cond (test x) 1 0) low (range_with_len (low + 1) n)) ∙ none) in
    elim (cases_eq at low) [
      | inl same ↦ ap test same ∙ no-one (test low) parts.0
      | inr apart ↦ none-counted test (low + 1) n at (omega arith) (omega arith) parts.1
    ]
