-- Lines that begin with a part of an old chunk.
use Rattle.std.proofs.Common.{◌≡◌, inl, inr, ℕ, zero, suc, ◌+◌, ◌-◌, ◌<◌, ◌≤◌, refl, sym, ap, ◌∙◌, List, [], ◌∷◌, ◌++◌, length, get_or, take, arith}
use Rattle.std.specs.Prelude.{sum}
use Rattle.std.proofs.lemmas.List.{length-append, append_cancel_left}
use Rattle.std.proofs.lemmas.List.Sums.{sum_by_more}
use Rattle.std.proofs.lemmas.Bool.{cases_lt}
use Rattle.cps_chunk.specs.Division.{AreChunks}
use Rattle.cps_edit.specs.Numbers.{numbers}
use Rattle.cps_chunk.specs.Exchange.{numbers_of, BeginsWithPart}
use Rattle.cps_chunk.proofs.ChunkCutLemmas.{sum-order}

pub length-numbers : (at n : ℕ) → length (numbers at n) ≡ n
length-numbers at zero = refl
length-numbers at (suc n) = ap suc (length-numbers (at + 1) n)

pub numbers-more : (at n k : ℕ) → numbers at (n + k) ≡ numbers at n ++ numbers (at + n) k
numbers-more at zero k =
    let none : 0 + k ≡ k = omega arith in
    let same : at ≡ at + 0 = omega arith in
    λ i. numbers (same i) (none i)
numbers-more at (suc n) k =
    let next : suc n + k ≡ suc (n + k) = omega arith in
    let same : at + 1 + n ≡ at + suc n = omega arith in
    ap (numbers at) next ∙ ap (λ xs. at ∷ xs) (numbers-more (at + 1) n k ∙ ap (λ m. numbers (at + 1) n ++ numbers m k) same)

first-number : (at n : ℕ) (others : List ℕ) → 0 < n → get_or (numbers at n ++ others) 0 0 ≡ at
first-number at zero others some = absurd (omega (arith, some))
first-number at (suc n) others some = refl

first-alone : (at n : ℕ) → 0 < n → get_or (numbers at n) 0 0 ≡ at
first-alone at zero some = absurd (omega (arith, some))
first-alone at (suc n) some = refl

chunk-some : (ns : List ℕ) (i : ℕ) → AreChunks ns → i < length ns → 0 < get_or ns i 0
chunk-some [] i d lt = absurd (omega (arith, lt))
chunk-some (n ∷ ns) zero d lt = omega (arith, d.0)
chunk-some (n ∷ ns) (suc i) d lt = chunk-some ns i d.3 (omega (arith, lt))

-- a line stands in one chunk alone
same-chunk : (ns : List ℕ) → AreChunks ns → (i j at : ℕ) → i < length ns → j < length ns → at ≡ sum (take j ns) → sum (take i ns) ≤ at → at < sum (take i ns) + get_or ns i 0 → i ≡ j
same-chunk ns d i j at p q is begins ends =
    elim (cases_lt i j) [
      | inl less ↦
          let next = sum_by_more (λ x. x) ns i 0 p in
          let order = sum-order (i + 1) j ns (omega (arith, less)) in
          absurd (omega (arith, is, ends, next, order))
      | inr more ↦ elim (cases_lt j i) [
        | inl less ↦
            let next = sum_by_more (λ x. x) ns j 0 q in
            let order = sum-order (j + 1) i ns (omega (arith, less)) in
            absurd (omega (arith, is, begins, next, order, chunk-some ns j d q))
        | inr less ↦ omega (arith, more, less)
      ]
    ]

pub part-new : (ns : List ℕ) → AreChunks ns → (i from to : ℕ) (others : List ℕ) → BeginsWithPart ns i from to others
    → (j : ℕ) → j < length ns → numbers from (to - from) ++ others ≡ numbers_of j ns → ⊥
part-new ns d i from to others part j within same =
    let count : 0 < to - from = omega (arith, part.some) in
    let at = sum (take j ns) in
    let n = get_or ns j 0 in
    let first : from ≡ at = sym (first-number from (to - from) others count) ∙ ap (λ xs. get_or xs 0 0) same ∙ first-alone at n (chunk-some ns j d within) in
    let here : i ≡ j = same-chunk ns d i j from part.within within first part.begins (omega (arith, part.some, part.ends)) in
    let begin : sum (take i ns) ≡ at = ap (λ k. sum (take k ns)) here in
    let lines : get_or ns i 0 ≡ n = ap (λ k. get_or ns k 0) here in
    let long : to - from + length others ≡ n = ap (λ k. k + length others) (sym (length-numbers from (to - from))) ∙ sym (length-append (numbers from (to - from)) others) ∙ ap length same ∙ length-numbers at n in
    behind others part.alone part.seam same long begin lines first
  where
    behind : (others : List ℕ) → (others ≡ [] → to - from < get_or ns i 0) → (0 < length others → to < sum (take i ns) + get_or ns i 0 → get_or others 0 0 ≡ to → ⊥)
        → numbers from (to - from) ++ others ≡ numbers_of j ns → to - from + length others ≡ get_or ns j 0 → sum (take i ns) ≡ sum (take j ns) → get_or ns i 0 ≡ get_or ns j 0 → from ≡ sum (take j ns) → ⊥
    behind [] alone seam same long begin lines first =
        let none : length {A = ℕ} [] ≡ 0 = refl in
        omega (arith, alone refl, long, lines, none)
    behind (y ∷ ys) alone seam same long begin lines first =
        let some : length (y ∷ ys) ≡ suc (length ys) = refl in
        let left = suc (length ys) in
        let all : numbers from (to - from) ++ (y ∷ ys) ≡ numbers from (to - from) ++ numbers (from + (to - from)) left =
        same ∙ (λ k. numbers (sym first k) (sym long k)) ∙ numbers-more from (to - from) left in
        let rest : y ∷ ys ≡ numbers (from + (to - from)) left = append_cancel_left (numbers from (to - from)) (y ∷ ys) (numbers (from + (to - from)) left) all in
        let next : from + (to - from) ≡ to = omega (arith, part.some) in
        seam (omega (arith, some)) (omega (arith, long, some, begin, lines, first, part.some)) (ap (λ xs. get_or xs 0 0) rest ∙ next)
