-- Behind a move no number follows the one before it where a run begins. So the move cuts no chunk whose numbers still follow one another.
use Rattle.std.proofs.Common.{arith, ◌≡◌, ℕ, zero, suc, ◌+◌, ◌-◌, ◌<◌, ◌≤◌, refl, subst, false, List, [], ◌∷◌, ◌++◌, take, drop, inl, inr, ◌⊎◌}
use Rattle.std.specs.Prelude.{nat_lt, ◌||◌}
use Rattle.std.proofs.lemmas.Bool.{le-ltb, cases_lt, cases_eq, and_left, and_right}
use Rattle.cps_edit.specs.declared.exchange.Exchange.{Exchange}
use Rattle.cps_edit.specs.Numbers.{numbers, exchanged_numbers}
use Rattle.cps_chunk.specs.Code.MoveLooks.{is_among, is_cut_by}

module _ (e : Exchange) where
  -- neither run begins at a place, nor what stands behind both
  abbrev pub IsInner : ℕ → Type 0
  IsInner place = (place ≡ e.keep → ⊥) × (place ≡ e.mid → ⊥) × (place ≡ e.from → ⊥)

  -- so it is with the first of some numbers, if it is the next one after another number
  abbrev pub GoesOnInside : ℕ → List ℕ → Type 0
  GoesOnInside k [] = Unit {0}
  GoesOnInside k (m ∷ ms) = m ≡ suc k → IsInner m

  -- and with each of some numbers that is the next one after the number in front of it
  abbrev pub AreSeamless : List ℕ → Type 0
  AreSeamless [] = Unit {0}
  AreSeamless (m ∷ ms) = GoesOnInside m ms × AreSeamless ms

  pub seamless-take : (n : ℕ) (ms : List ℕ) → AreSeamless ms → AreSeamless (take n ms)
  seamless-take zero ms are = tt
  seamless-take (suc n) [] are = tt
  seamless-take (suc n) (m ∷ ms) are = (first n ms are.0, seamless-take n ms are.1)
    where
      first : (n : ℕ) (ms : List ℕ) → GoesOnInside m ms → GoesOnInside m (take n ms)
      first zero ms goes = tt
      first (suc n) [] goes = tt
      first (suc n) (k ∷ ms) goes = goes

  pub seamless-drop : (n : ℕ) (ms : List ℕ) → AreSeamless ms → AreSeamless (drop n ms)
  seamless-drop zero ms are = are
  seamless-drop (suc n) [] are = tt
  seamless-drop (suc n) (m ∷ ms) are = seamless-drop n ms are.1

  -- ---- such numbers that follow one another

  inner-among : (at n : ℕ) → AreSeamless (numbers at n) → (place : ℕ) → at < place → place < at + n → IsInner place
  inner-among at zero are place p q = absurd (omega (arith, p, q))
  inner-among at (suc zero) are place p q = absurd (omega (arith, p, q))
  inner-among at (suc (suc n)) are place p q = by_case (cases_eq (at + 1) place) (inner-among (at + 1) (suc n) are.1 place)
    where
      by_case : (at + 1 ≡ place) ⊎ (at + 1 ≡ place → ⊥) → (at + 1 < place → place < at + 1 + suc n → IsInner place) → IsInner place
      by_case (inl same) later = subst (λ (k : ℕ). IsInner k) same (are.0 (omega arith))
      by_case (inr other) later = later (omega (arith, p, other)) (omega (arith, q))

  none-among : (place at n : ℕ) → (at < place → place < at + n → ⊥) → is_among place at n ≡ false
  none-among place at n out = by_case (cases_lt at place) (cases_lt place (at + n))
    where
      by_case : (at < place) ⊎ (place ≤ at) → (place < at + n) ⊎ (at + n ≤ place) → is_among place at n ≡ false
      by_case (inr le) other = and_left (nat_lt at place) (nat_lt place (at + n)) (le-ltb at place le)
      by_case (inl lt) (inr le) = and_right (nat_lt at place) (nat_lt place (at + n)) (le-ltb place (at + n) le)
      by_case (inl lt) (inl more) = absurd (out lt more)

  -- the move doesn't cut their chunk
  pub seamless-uncut : (at n : ℕ) → AreSeamless (numbers at n) → is_cut_by e at n ≡ false
  seamless-uncut at n are =
      let inner = inner-among at n are in
      let first : is_among e.keep at n ≡ false = none-among e.keep at n (λ p q. (inner e.keep p q).0 refl) in
      let second : is_among e.mid at n ≡ false = none-among e.mid at n (λ p q. (inner e.mid p q).1 refl) in
      let third : is_among e.from at n ≡ false = none-among e.from at n (λ p q. (inner e.from p q).2 refl) in
      λ i. first i || (second i || third i)

  -- ---- the numbers behind the move

  goes-run : (k at n : ℕ) (rest : List ℕ) → (at ≡ suc k → ⊥) → (n ≡ 0 → GoesOnInside k rest) → GoesOnInside k (numbers at n ++ rest)
  goes-run k at zero rest out goes = goes refl
  goes-run k at (suc n) rest out goes = λ is. absurd (out is)

  seamless-run : (at n : ℕ) (rest : List ℕ) → ((place : ℕ) → at < place → place < at + n → IsInner place)
      → ((k : ℕ) → at ≤ k → suc k ≡ at + n → GoesOnInside k rest) → AreSeamless rest → AreSeamless (numbers at n ++ rest)
  seamless-run at zero rest inner goes are = are
  seamless-run at (suc zero) rest inner goes are = (goes at (omega arith) (omega arith), are)
  seamless-run at (suc (suc n)) rest inner goes are = (
    (λ is. inner (at + 1) (omega arith) (omega arith)),
    seamless-run (at + 1) (suc n) rest (λ place p q. inner place (omega (arith, p)) (omega (arith, q)))
        (λ k p q. goes k (omega (arith, p)) (omega (arith, q))) are,
  )

  pub exchanged-seamless : (count : ℕ) → e.keep < e.mid → e.mid < e.from → e.from ≤ count → AreSeamless (exchanged_numbers count e)
  exchanged-seamless count first second all =
      let keep = e.keep in
      let mid = e.mid in
      let from = e.from in
      let four = numbers from (count - from) ++ [] in
      let three = numbers keep (mid - keep) ++ four in
      let two = numbers mid (from - mid) ++ three in
      let four-are : AreSeamless four =
      seamless-run from (count - from) []
      (λ place p q. ((λ is. omega (arith, is, p, first, second)), (λ is. omega (arith, is, p, second)), (λ is. omega (arith, is, p)))) (λ k p q. tt) tt in
      let three-are : AreSeamless three =
      seamless-run keep (mid - keep) four
      (λ place p q. ((λ is. omega (arith, is, p)), (λ is. omega (arith, is, q, first)), (λ is. omega (arith, is, q, first, second))))
      (λ k p q. goes-run k from (count - from) [] (λ is. omega (arith, is, q, first, second)) (λ none. tt)) four-are in
      let two-are : AreSeamless two =
      seamless-run mid (from - mid) three
      (λ place p q. ((λ is. omega (arith, is, p, first)), (λ is. omega (arith, is, p)), (λ is. omega (arith, is, q, second))))
      (λ k p q. goes-run k keep (mid - keep) four (λ is. omega (arith, is, q, first, second)) (λ none. absurd (omega (arith, none, first)))) three-are in
      seamless-run 0 keep two
      (λ place p q. ((λ is. omega (arith, is, q)), (λ is. omega (arith, is, q, first)), (λ is. omega (arith, is, q, first, second))))
      (λ k p q. goes-run k mid (from - mid) three (λ is. omega (arith, is, q, first)) (λ none. absurd (omega (arith, none, second)))) two-are
