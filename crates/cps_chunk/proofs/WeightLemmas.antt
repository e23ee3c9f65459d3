-- A weight for each line, the same for all lines of a chunk: what they come to together, and those of the lines of other chunks.
use Rattle.std.proofs.Common.{arith, ◌≡◌, ℕ, zero, suc, ◌+◌, ◌*◌, ◌≤◌, refl, sym, ap, subst, ◌∙◌, append_assoc, Bool, true, false, List, [], ◌∷◌, ◌++◌, length, get_or, take, drop, replicate}
use Rattle.std.specs.Prelude.{◌||◌, nat_eq, sum}
use Rattle.std.specs.List.{list_any}
use Rattle.std.specs.Cmp.Lexicographic.{pointwise, same_text}
use Rattle.std.proofs.lemmas.Bool.{false≢true}
use Rattle.std.proofs.lemmas.List.{length-append, length-replicate, take_at, drop_at}
use Rattle.std.proofs.lemmas.List.Folds.{sum_by-replicate}
use Rattle.cps_edit.specs.declared.exchange.Exchange.{Exchange}
use Rattle.cps_edit.specs.Exchange.{IsWithin, exchanged}
use Rattle.cps_edit.specs.Numbers.{numbers, picked}
use Rattle.cps_edit.proofs.ListLemmas.{whole}
use Rattle.cps_edit.proofs.NumberLemmas.{exchanged-picks}
use Rattle.cps_chunk.specs.Division.{AreChunks}
use Rattle.cps_chunk.specs.Touched.{cut}
use Rattle.cps_chunk.proofs.CutLemmas.{sum-append, sum-cons}

-- ---- numbers

take-numbers : (at n more : ℕ) → take n (numbers at (n + more)) ≡ numbers at n
take-numbers at zero more = refl
take-numbers at (suc n) more =
    let next : suc n + more ≡ suc (n + more) = omega arith in
    ap (λ k. take (suc n) (numbers at k)) next ∙ ap (λ ms. at ∷ ms) (take-numbers (at + 1) n more)

drop-numbers : (at n more : ℕ) → drop n (numbers at (n + more)) ≡ numbers (at + n) more
drop-numbers at zero more =
    let same : at ≡ at + 0 = omega arith in
    let all : 0 + more ≡ more = omega arith in
    (λ i. numbers (same i) (all i))
drop-numbers at (suc n) more =
    let next : suc n + more ≡ suc (n + more) = omega arith in
    let on : at + 1 + n ≡ at + suc n = omega arith in
    ap (λ k. drop (suc n) (numbers at k)) next ∙ drop-numbers (at + 1) n more ∙ ap (λ k. numbers k more) on

-- ---- weights of at most two

abbrev pub AreSmall : List ℕ → Type 0
AreSmall [] = Unit {0}
AreSmall (w ∷ ws) = (w ≤ 2) × AreSmall ws

small-append : (vs ws : List ℕ) → AreSmall vs → AreSmall ws → AreSmall (vs ++ ws)
small-append [] ws first second = second
small-append (v ∷ vs) ws first second = (first.0, small-append vs ws first.1 second)

small-replicate : (n w : ℕ) → w ≤ 2 → AreSmall (replicate n w)
small-replicate zero w le = tt
small-replicate (suc n) w le = (le, small-replicate n w le)

small-at : (ws : List ℕ) (k : ℕ) → AreSmall ws → get_or ws k 0 ≤ 2
small-at [] k are = omega arith
small-at (w ∷ ws) zero are = are.0
small-at (w ∷ ws) (suc k) are = small-at ws k are.1

-- so many lines weigh at most twice as much
pub small-picked : (ws ms : List ℕ) → AreSmall ws → sum (picked ws 0 ms) ≤ 2 * length ms
small-picked ws [] are = omega arith
small-picked ws (m ∷ ms) are = omega (arith, sum-cons (get_or ws m 0) (picked ws 0 ms), small-at ws m are, small-picked ws ms are)

-- ---- in another order

-- they come to as much
pub sum-exchanged : (ws : List ℕ) (e : Exchange) → IsWithin (length ws) e → sum (exchanged e ws) ≡ sum ws
sum-exchanged ws e within =
    let front = take e.keep ws in
    let first = drop e.keep (take e.mid ws) in
    let second = drop e.mid (take e.from ws) in
    let back = drop e.from ws in
    omega (
      arith,
      sum-append front (second ++ (first ++ back)),
      sum-append second (first ++ back),
      sum-append first back,
      sum-append front (first ++ (second ++ back)),
      sum-append first (second ++ back),
      sum-append second back,
      ap sum (whole ws e.keep e.mid e.from within.first within.second within.all),
    )

-- ---- of the lines of chunks, where a chunk's lines weigh so much that begins at a place and has so many

module _ (weight : ℕ → ℕ → ℕ) where
  abbrev pub weights : List ℕ → ℕ → List ℕ
  weights [] at = []
  weights (n ∷ ns) at = replicate n (weight at n) ++ weights ns (at + n)

  pub length-weights : (ns : List ℕ) (at : ℕ) → length (weights ns at) ≡ sum ns
  length-weights [] at = refl
  length-weights (n ∷ ns) at =
      omega (
        arith,
        length-append (replicate n (weight at n)) (weights ns (at + n)),
        length-replicate n (weight at n),
        length-weights ns (at + n),
        sum-cons n ns,
      )

  pub small-weights : ((at n : ℕ) → weight at n ≤ 2) → (ns : List ℕ) (at : ℕ) → AreSmall (weights ns at)
  small-weights small [] at = tt
  small-weights small (n ∷ ns) at =
      small-append (replicate n (weight at n)) (weights ns (at + n)) (small-replicate n (weight at n) (small at n)) (small-weights small ns (at + n))

  pub sum-weights : (n : ℕ) (ns : List ℕ) (at : ℕ) → sum (weights (n ∷ ns) at) ≡ n * weight at n + sum (weights ns (at + n))
  sum-weights n ns at =
      sum-append (replicate n (weight at n)) (weights ns (at + n)) ∙ ap (λ k. k + sum (weights ns (at + n))) (sum_by-replicate (λ (k : ℕ). k) n (weight at n))

  -- numbers are those of an old chunk, and weigh what its lines do
  pub record AreOfChunk (count : ℕ) (all ms : List ℕ) : Type 0 where
    pub at : ℕ
    pub n : ℕ
    pub same : ms ≡ numbers at n
    pub some : 1 ≤ n
    pub within : at + n ≤ count
    pub weighs : picked all 0 ms ≡ replicate n (weight at n)

  -- as the test tells
  of-chunk : (ns : List ℕ) (at : ℕ) (before ms : List ℕ) → AreChunks ns → length before ≡ at → list_any (pointwise nat_eq ms) (cut ns (numbers at (sum ns))) ≡ true
      → AreOfChunk (at + sum ns) (before ++ weights ns at) ms
  of-chunk [] at before ms chunks long any = absurd (false≢true any)
  of-chunk (n ∷ ns) at before ms chunks long any =
      by_test (pointwise nat_eq ms (take n (numbers at (sum (n ∷ ns))))) refl (of-chunk ns (at + n) (before ++ replicate n (weight at n)) ms chunks.3)
    where
      all : sum (n ∷ ns) ≡ n + sum ns
      all = sum-cons n ns

      here : take n (numbers at (sum (n ∷ ns))) ≡ numbers at n
      here = ap (λ k. take n (numbers at k)) all ∙ take-numbers at n (sum ns)

      there : drop n (numbers at (sum (n ∷ ns))) ≡ numbers (at + n) (sum ns)
      there = ap (λ k. drop n (numbers at k)) all ∙ drop-numbers at n (sum ns)

      its : List ℕ
      its = replicate n (weight at n)

      its-long : length its ≡ n
      its-long = length-replicate n (weight at n)

      left : List ℕ
      left = weights ns (at + n)

      by_test : (b : Bool) → pointwise nat_eq ms (take n (numbers at (sum (n ∷ ns)))) ≡ b
          → (length (before ++ its) ≡ at + n → list_any (pointwise nat_eq ms) (cut ns (numbers (at + n) (sum ns))) ≡ true → AreOfChunk (at + n + sum ns) ((before ++ its) ++ left) ms)
          → AreOfChunk (at + sum (n ∷ ns)) (before ++ weights (n ∷ ns) at) ms
      by_test true is found =
          let same : ms ≡ numbers at n = same_text ms (take n (numbers at (sum (n ∷ ns)))) (sym is) ∙ here in
          let fits : at + n ≤ length (before ++ (its ++ left)) = omega (arith, length-append before (its ++ left), length-append its left, its-long, long) in
          let run : take n (drop at (before ++ (its ++ left))) ≡ its = ap (take n) (drop_at before (its ++ left) at long) ∙ take_at its left n its-long in
          record {
            at = at;
            n = n;
            same = same;
            some = chunks.0;
            within = omega (arith, all);
            weighs = ap (picked (before ++ (its ++ left)) 0) same ∙ (exchanged-picks (before ++ (its ++ left)) 0).1 at n fits ∙ run;
          }
      by_test false is found =
          let later : list_any (pointwise nat_eq ms) (cut ns (numbers (at + n) (sum ns))) ≡ true =
          sym (λ i. is i || list_any (pointwise nat_eq ms) (cut ns (there i))) ∙ any in
          let longer : length (before ++ its) ≡ at + n = omega (arith, length-append before its, its-long, long) in
          let end : at + n + sum ns ≡ at + sum (n ∷ ns) = omega (arith, all) in
          subst (λ (k : ℕ). AreOfChunk k (before ++ (its ++ left)) ms) end
          (subst (λ (ws : List ℕ). AreOfChunk (at + n + sum ns) ws ms) (append_assoc before its left) (found longer later))

  pub are-of-chunk : (ns ms : List ℕ) → AreChunks ns → list_any (pointwise nat_eq ms) (cut ns (numbers 0 (sum ns))) ≡ true → AreOfChunk (sum ns) (weights ns 0) ms
  are-of-chunk ns ms chunks any =
      let none : 0 + sum ns ≡ sum ns = omega arith in
      subst (λ (k : ℕ). AreOfChunk k (weights ns 0) ms) none (of-chunk ns 0 [] ms chunks refl any)
