-- How many chunks are the same in two divisions, from the front.
use Rattle.std.proofs.Common.{◌≡◌, inl, inr, ℕ, suc, ◌+◌, ◌-◌, ◌<◌, ◌≤◌, min, refl, ap, ◌∙◌, List, [], ◌∷◌, ◌++◌, length, get_or, take, drop, true, false, Bool, arith}
use Rattle.std.specs.Prelude.{if◌then◌else◌, nat_lt, nat_eq, sum}
use Rattle.std.proofs.lemmas.Bool.{lt-ltb, le-ltb, ltb-false, eqb-true, eq-eqb, ne_eqb, cases_lt}
use Rattle.std.proofs.lemmas.List.{drop_more, drop_all}
use Rattle.std.proofs.lemmas.List.Sums.{sum_by-cons}
use Rattle.cps_chunk.specs.Division.{AreChunks}
use Rattle.cps_chunk.specs.Staying.{same_front}

-- each has a line
abbrev pub AreSome : List ℕ → Type 0
AreSome [] = Unit {0}
AreSome (n ∷ ns) = (1 ≤ n) × AreSome ns

pub chunks-some : (ns : List ℕ) → AreChunks ns → AreSome ns
chunks-some [] d = tt
chunks-some (n ∷ ns) d = (d.0, chunks-some ns d.3)

pub some-append : (xs ys : List ℕ) → AreSome xs → AreSome ys → AreSome (xs ++ ys)
some-append [] ys a b = b
some-append (x ∷ xs) ys a b = (a.0, some-append xs ys a.1 b)

pub some-first : (xs ys : List ℕ) → AreSome (xs ++ ys) → AreSome xs
some-first [] ys a = tt
some-first (x ∷ xs) ys a = (a.0, some-first xs ys a.1)

pub some-second : (xs ys : List ℕ) → AreSome (xs ++ ys) → AreSome ys
some-second [] ys a = a
some-second (x ∷ xs) ys a = some-second xs ys a.1

sum-next : (n : ℕ) (ns : List ℕ) → sum (n ∷ ns) ≡ n + sum ns
sum-next n ns = sum_by-cons (λ x. x) n ns

-- ---- one step

pub front-next : (lines n m : ℕ) (olds news : List ℕ) → n ≡ m → n ≤ lines → same_front lines (n ∷ olds) (m ∷ news) ≡ suc (same_front (lines - n) olds news)
front-next lines n m olds news same within =
    ap (λ b. if b then (if nat_lt lines n then 0 else suc (same_front (lines - n) olds news)) else 0) (eq-eqb n m same)
    ∙ ap (λ b. if b then 0 else suc (same_front (lines - n) olds news)) (le-ltb lines n within)

pub front-other : (lines n m : ℕ) (olds news : List ℕ) → (n ≡ m → ⊥) → same_front lines (n ∷ olds) (m ∷ news) ≡ 0
front-other lines n m olds news other = ap (λ b. if b then (if nat_lt lines n then 0 else suc (same_front (lines - n) olds news)) else 0) (ne_eqb n m other)

pub front-beyond : (lines n m : ℕ) (olds news : List ℕ) → lines < n → same_front lines (n ∷ olds) (m ∷ news) ≡ 0
front-beyond lines n m olds news over = at (nat_eq n m)
  where
    none : (if nat_lt lines n then 0 else suc (same_front (lines - n) olds news)) ≡ 0
    none = ap (λ b. if b then 0 else suc (same_front (lines - n) olds news)) (lt-ltb lines n over)

    at : (b : Bool) → (if b then (if nat_lt lines n then 0 else suc (same_front (lines - n) olds news)) else 0) ≡ 0
    at true = none
    at false = refl

front-zero : (olds news : List ℕ) → AreSome olds → same_front 0 olds news ≡ 0
front-zero [] news some = refl
front-zero (n ∷ olds) [] some = refl
front-zero (n ∷ olds) (m ∷ news) some = front-beyond 0 n m olds news (omega (arith, some.0))

front-none : (lines : ℕ) (olds news : List ℕ) → lines ≤ 0 → AreSome olds → same_front lines olds news ≡ 0
front-none lines olds news none some =
    let left : lines ≡ 0 = omega (arith, none) in
    ap (λ k. same_front k olds news) left ∙ front-zero olds news some

pub front-nil : (lines : ℕ) (olds : List ℕ) → same_front lines olds [] ≡ 0
front-nil lines [] = refl
front-nil lines (n ∷ olds) = refl

-- ---- within a part

-- chunks that are the same come first
pub front-past : (lines : ℕ) (first olds news : List ℕ) → sum first ≤ lines
    → same_front lines (first ++ olds) (first ++ news) ≡ length first + same_front (lines - sum first) olds news
front-past lines [] olds news within =
    let none : lines - sum [] ≡ lines = omega arith in
    omega (arith, ap (λ k. same_front k olds news) none)
front-past lines (n ∷ ns) olds news within =
    let all = sum-next n ns in
    let rest = front-past (lines - n) ns olds news (omega (arith, all, within)) in
    let same : lines - n - sum ns ≡ lines - sum (n ∷ ns) = omega (arith, all) in
    let there = ap (λ k. same_front k olds news) same in
    let here = front-next lines n n (ns ++ olds) (ns ++ news) refl (omega (arith, all, within)) in
    omega (arith, here, rest, there)

-- nothing behind a part counts where all the lines are in it
pub front-within : (lines : ℕ) (olds news rest : List ℕ) → AreSome (olds ++ rest) → lines ≤ sum olds → lines ≤ sum news
    → same_front lines (olds ++ rest) (news ++ rest) ≡ same_front lines olds news
front-within lines [] news rest some o n = front-none lines rest (news ++ rest) o some
front-within lines (x ∷ xs) [] rest some o n = front-none lines (x ∷ (xs ++ rest)) rest n some
front-within lines (x ∷ xs) (y ∷ ys) rest some o n = at (nat_eq x y) refl (nat_lt lines x) refl (front-within (lines - x) xs ys rest some.1)
  where
    at : (same : Bool) → nat_eq x y ≡ same → (over : Bool) → nat_lt lines x ≡ over
        → (lines - x ≤ sum xs → lines - x ≤ sum ys → same_front (lines - x) (xs ++ rest) (ys ++ rest) ≡ same_front (lines - x) xs ys)
        → (if same then (if over then 0 else suc (same_front (lines - x) (xs ++ rest) (ys ++ rest))) else 0)
        ≡ (if same then (if over then 0 else suc (same_front (lines - x) xs ys)) else 0)
    at false s over v more = refl
    at true s true v more = refl
    at true s false v more =
        let equal = eqb-true x y s in
        ap suc (more (omega (arith, sum-next x xs, o)) (omega (arith, sum-next y ys, n, equal)))

-- ---- what they are

pub front-same : (lines : ℕ) (olds news : List ℕ) → take (same_front lines olds news) olds ≡ take (same_front lines olds news) news
front-same lines [] [] = refl
front-same lines [] (y ∷ ys) = refl
front-same lines (x ∷ xs) [] = refl
front-same lines (x ∷ xs) (y ∷ ys) = at (nat_eq x y) refl (nat_lt lines x) (front-same (lines - x) xs ys)
  where
    at : (same : Bool) → nat_eq x y ≡ same → (over : Bool) → take (same_front (lines - x) xs ys) xs ≡ take (same_front (lines - x) xs ys) ys
        → take (if same then (if over then 0 else suc (same_front (lines - x) xs ys)) else 0) (x ∷ xs)
        ≡ take (if same then (if over then 0 else suc (same_front (lines - x) xs ys)) else 0) (y ∷ ys)
    at false s over more = refl
    at true s true more = refl
    at true s false more =
        let equal = eqb-true x y s in
        λ i. equal i ∷ more i

pub front-olds : (lines : ℕ) (olds news : List ℕ) → same_front lines olds news ≤ length olds
front-olds lines [] news = omega arith
front-olds lines (x ∷ xs) [] = omega arith
front-olds lines (x ∷ xs) (y ∷ ys) = at (nat_eq x y) (nat_lt lines x) (front-olds (lines - x) xs ys)
  where
    at : (same over : Bool) → same_front (lines - x) xs ys ≤ length xs → (if same then (if over then 0 else suc (same_front (lines - x) xs ys)) else 0) ≤ suc (length xs)
    at false over more = omega arith
    at true true more = omega arith
    at true false more = omega (arith, more)

pub front-news : (lines : ℕ) (olds news : List ℕ) → same_front lines olds news ≤ length news
front-news lines [] news = omega arith
front-news lines (x ∷ xs) [] = omega arith
front-news lines (x ∷ xs) (y ∷ ys) = at (nat_eq x y) (nat_lt lines x) (front-news (lines - x) xs ys)
  where
    at : (same over : Bool) → same_front (lines - x) xs ys ≤ length ys → (if same then (if over then 0 else suc (same_front (lines - x) xs ys)) else 0) ≤ suc (length ys)
    at false over more = omega arith
    at true true more = omega arith
    at true false more = omega (arith, more)

pub front-lines : (lines : ℕ) (olds news : List ℕ) → sum (take (same_front lines olds news) olds) ≤ lines
front-lines lines [] news = omega arith
front-lines lines (x ∷ xs) [] = omega arith
front-lines lines (x ∷ xs) (y ∷ ys) = at (nat_eq x y) (nat_lt lines x) refl (front-lines (lines - x) xs ys)
  where
    at : (same over : Bool) → nat_lt lines x ≡ over → sum (take (same_front (lines - x) xs ys) xs) ≤ lines - x
        → sum (take (if same then (if over then 0 else suc (same_front (lines - x) xs ys)) else 0) (x ∷ xs)) ≤ lines
    at false over v more = omega arith
    at true true v more = omega arith
    at true false v more = omega (arith, sum-next x (take (same_front (lines - x) xs ys) xs), ltb-false lines x v, more)

-- ---- along a loop

pub drop-next : (left i : ℕ) (olds news : List ℕ) → i < length olds → i < length news → get_or olds i 0 ≡ get_or news i 0 → get_or olds i 0 ≤ left
    → same_front left (drop i olds) (drop i news) ≡ suc (same_front (left - get_or olds i 0) (drop (i + 1) olds) (drop (i + 1) news))
drop-next left i olds news o n same within =
    (λ k. same_front left (drop_more olds i 0 o k) (drop_more news i 0 n k)) ∙ front-next left (get_or olds i 0) (get_or news i 0) (drop (i + 1) olds) (drop (i + 1) news) same within

pub drop-other : (left i : ℕ) (olds news : List ℕ) → i < length olds → i < length news → (get_or olds i 0 ≡ get_or news i 0 → ⊥) → same_front left (drop i olds) (drop i news) ≡ 0
drop-other left i olds news o n other =
    (λ k. same_front left (drop_more olds i 0 o k) (drop_more news i 0 n k)) ∙ front-other left (get_or olds i 0) (get_or news i 0) (drop (i + 1) olds) (drop (i + 1) news) other

pub drop-beyond : (left i : ℕ) (olds news : List ℕ) → i < length olds → i < length news → left < get_or olds i 0 → same_front left (drop i olds) (drop i news) ≡ 0
drop-beyond left i olds news o n over =
    (λ k. same_front left (drop_more olds i 0 o k) (drop_more news i 0 n k)) ∙ front-beyond left (get_or olds i 0) (get_or news i 0) (drop (i + 1) olds) (drop (i + 1) news) over

pub drop-olds : (left i : ℕ) (olds news : List ℕ) → length olds ≤ i → same_front left (drop i olds) news ≡ 0
drop-olds left i olds news none = ap (λ xs. same_front left xs news) (drop_all i olds none)

pub drop-news : (left i : ℕ) (olds news : List ℕ) → length news ≤ i → same_front left olds (drop i news) ≡ 0
drop-news left i olds news none = ap (λ xs. same_front left olds xs) (drop_all i news none) ∙ front-nil left olds

pub drop-end : (left i : ℕ) (olds news : List ℕ) → min (length olds) (length news) ≤ i → same_front left (drop i olds) (drop i news) ≡ 0
drop-end left i olds news end = elim (cases_lt i (length olds)) [
  | inl short ↦ drop-news left i (drop i olds) news (omega (arith, end, short))
  | inr past ↦ drop-olds left i olds (drop i news) past
]
