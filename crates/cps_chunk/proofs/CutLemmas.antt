-- Lists cut by lengths, and lengths that are short.
use Rattle.std.proofs.Common.{arith, ◌≡◌, ℕ, zero, suc, ◌+◌, ◌-◌, ◌*◌, ◌≤◌, refl, sym, ap, ◌∙◌, zero-add, List, [], ◌∷◌, ◌++◌, length, take, drop}
use Rattle.std.specs.Prelude.{sum}
use Rattle.std.specs.List.{between}
use Rattle.std.proofs.lemmas.List.{take-take, drop-take, drop-drop, take-append-drop}
use Rattle.std.proofs.lemmas.List.Sums.{sum_by-append}
use Rattle.std.proofs.lemmas.Slice.{between_is}
use Rattle.cps_chunk.specs.Division.{AreChunks}
use Rattle.cps_chunk.specs.Touched.{cut}

-- ---- sums of lengths

pub sum-append : (xs ys : List ℕ) → sum (xs ++ ys) ≡ sum xs + sum ys
sum-append xs ys = sum_by-append (λ x. x) xs ys

pub sum-cons : (n : ℕ) (ns : List ℕ) → sum (n ∷ ns) ≡ n + sum ns
sum-cons n ns = sum-append (n ∷ []) ns ∙ (let one : sum (n ∷ []) ≡ n = omega arith in ap (λ k. k + sum ns) one)

-- the first of them, and the others
pub sum-parts : (i : ℕ) (ns : List ℕ) → sum (take i ns) + sum (drop i ns) ≡ sum ns
sum-parts i ns = sym (sum-append (take i ns) (drop i ns)) ∙ ap sum (take-append-drop i ns)

-- those of the first, and of the next ones up to a number
pub sum-part : (start end : ℕ) (ns : List ℕ) → start ≤ end → sum (take start ns) + sum (between start end ns) ≡ sum (take end ns)
sum-part start end ns ordered =
    let first = take end ns in
    (λ i. sum (sym (take-take start end ns ordered) i) + sum (between_is ns start end i))
    ∙ sum-parts start first

-- ---- lists cut by them

module _ {X : Type 0} where
  pub take-more : (m n : ℕ) (xs : List X) → take (m + n) xs ≡ take m xs ++ take n (drop m xs)
  take-more zero n xs = ap (λ k. take k xs) (zero-add n)
  take-more (suc m) n [] = none (suc m + n) n
    where
      none : (k j : ℕ) → take {A = X} k [] ≡ take {A = X} j []
      none zero zero = refl
      none zero (suc j) = refl
      none (suc k) zero = refl
      none (suc k) (suc j) = refl
  take-more (suc m) n (x ∷ xs) =
      let next : suc m + n ≡ suc (m + n) = omega arith in
      ap (λ k. take k (x ∷ xs)) next ∙ ap (λ ys. x ∷ ys) (take-more m n xs)

  pub take-past : (xs ys : List X) (k : ℕ) → take (length xs + k) (xs ++ ys) ≡ xs ++ take k ys
  take-past [] ys k = ap (λ j. take j ys) (zero-add k)
  take-past (x ∷ xs) ys k =
      let next : suc (length xs) + k ≡ suc (length xs + k) = omega arith in
      ap (λ j. take j (x ∷ xs ++ ys)) next ∙ ap (λ zs. x ∷ zs) (take-past xs ys k)

  pub drop-past : (xs ys : List X) (k : ℕ) → drop (length xs + k) (xs ++ ys) ≡ drop k ys
  drop-past [] ys k = ap (λ j. drop j ys) (zero-add k)
  drop-past (x ∷ xs) ys k =
      let next : suc (length xs) + k ≡ suc (length xs + k) = omega arith in
      ap (λ j. drop j (x ∷ xs ++ ys)) next ∙ drop-past xs ys k

  pub length-cut : (ms : List ℕ) (xs : List X) → length (cut ms xs) ≡ length ms
  length-cut [] xs = refl
  length-cut (m ∷ ms) xs = ap suc (length-cut ms (drop m xs))

  pub take-cut : (i : ℕ) (ms : List ℕ) (xs : List X) → take i (cut ms xs) ≡ cut (take i ms) xs
  take-cut zero ms xs = refl
  take-cut (suc i) [] xs = refl
  take-cut (suc i) (m ∷ ms) xs = ap (λ ps. take m xs ∷ ps) (take-cut i ms (drop m xs))

  pub drop-cut : (i : ℕ) (ms : List ℕ) (xs : List X) → drop i (cut ms xs) ≡ cut (drop i ms) (drop (sum (take i ms)) xs)
  drop-cut zero ms xs = refl
  drop-cut (suc i) [] xs = refl
  drop-cut (suc i) (m ∷ ms) xs =
      drop-cut i ms (drop m xs)
      ∙ ap (λ ys. cut (drop i ms) ys) (drop-drop (sum (take i ms)) m xs ∙ ap (λ k. drop k xs) (sym (sum-cons m (take i ms))))

  -- what lies behind all pieces counts for none of them
  pub cut-within : (ms : List ℕ) (k : ℕ) (xs : List X) → sum ms ≤ k → cut ms (take k xs) ≡ cut ms xs
  cut-within [] k xs le = refl
  cut-within (m ∷ ms) k xs le =
      let all = sum-cons m ms in
      let first = take-take m k xs (omega (arith, all, le)) in
      let count : k ≡ m + (k - m) = omega (arith, all, le) in
      let rest = ap (λ j. drop m (take j xs)) count ∙ drop-take m (k - m) xs in
      λ i. first i ∷ (ap (cut ms) rest ∙ cut-within ms (k - m) (drop m xs) (omega (arith, all, le))) i

-- ---- short chunks

abbrev pub AreShort : List ℕ → Type 0
AreShort [] = Unit {0}
AreShort (n ∷ ns) = (n ≤ 64) × AreShort ns

pub chunks-short : (ns : List ℕ) → AreChunks ns → AreShort ns
chunks-short [] are = tt
chunks-short (n ∷ ns) are = (are.1, chunks-short ns are.3)

pub short-take : (i : ℕ) (ns : List ℕ) → AreShort ns → AreShort (take i ns)
short-take zero ns are = tt
short-take (suc i) [] are = tt
short-take (suc i) (n ∷ ns) are = (are.0, short-take i ns are.1)

pub short-drop : (i : ℕ) (ns : List ℕ) → AreShort ns → AreShort (drop i ns)
short-drop zero ns are = are
short-drop (suc i) [] are = are
short-drop (suc i) (n ∷ ns) are = short-drop i ns are.1

pub short-first : (xs ys : List ℕ) → AreShort (xs ++ ys) → AreShort xs
short-first [] ys are = tt
short-first (x ∷ xs) ys are = (are.0, short-first xs ys are.1)

pub short-second : (xs ys : List ℕ) → AreShort (xs ++ ys) → AreShort ys
short-second [] ys are = are
short-second (x ∷ xs) ys are = short-second xs ys are.1

pub short-sum : (ns : List ℕ) → AreShort ns → sum ns ≤ 64 * length ns
short-sum [] are = omega arith
short-sum (n ∷ ns) are = omega (arith, sum-cons n ns, short-sum ns are.1, are.0)
