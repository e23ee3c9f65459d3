-- What a deletion leaves of the chunks, by the chunks of the first and the last line that goes.
use Rattle.std.proofs.Common.{◌≡◌, ◌⊎◌, inl, inr, ℕ, zero, suc, ◌+◌, ◌-◌, ◌<◌, ◌≤◌, refl, sym, ap, subst, ◌∙◌, List, [], ◌∷◌, ◌++◌, length, get_or, take, drop, append-nil, true, false, Bool, arith}
use Rattle.std.specs.Prelude.{if◌then◌else◌, nat_lt, sum}
use Rattle.std.proofs.lemmas.Bool.{lt-ltb, le-ltb}
use Rattle.std.proofs.lemmas.List.Sums.{sum_by-cons, sum_by_more}
use Rattle.cps_chunk.specs.Division.{full, AreChunks, joined, without, cut_in, deleted_at, chunk_of}
use Rattle.cps_chunk.proofs.DivisionLemmas.{lt-true, lt-false, joined-again}
use Rattle.cps_chunk.proofs.DeletionLemmas.{first-chunk, later-chunk, without-none}

-- the sum of the first chunks, which computes by the first of them
abbrev pub first_of : ℕ → List ℕ → ℕ
first_of zero ns = 0
first_of (suc i) [] = 0
first_of (suc i) (n ∷ ns) = n + first_of i ns

pub first-sum : (i : ℕ) (ns : List ℕ) → first_of i ns ≡ sum (take i ns)
first-sum zero ns = refl
first-sum (suc i) [] = refl
first-sum (suc i) (n ∷ ns) = ap (λ k. n + k) (first-sum i ns) ∙ sym (sum_by-cons (λ x. x) n (take i ns))

-- chunks set before what is left, of which the last may be joined with it
abbrev pub set_before : ℕ → List ℕ → List ℕ → List ℕ
set_before zero ns left = left
set_before (suc i) ns left = take i ns ++ joined (get_or ns i 0) left

joined-apart : (n m : ℕ) (ns : List ℕ) → full < n + m → joined n (m ∷ ns) ≡ n ∷ m ∷ ns
joined-apart n m ns apart = ap (λ b. if b then n ∷ m ∷ ns else (n + m) ∷ ns) (lt-ltb full (n + m) apart)

-- one chunk more before them
set-next : (n m : ℕ) (ms : List ℕ) (i : ℕ) (left : List ℕ) → full < n + m → 1 ≤ m → joined n (set_before i (m ∷ ms) left) ≡ set_before (suc i) (n ∷ m ∷ ms) left
set-next n m ms zero left apart one = refl
set-next n m ms (suc zero) left apart one = joined-again n m left apart one
set-next n m ms (suc (suc i)) left apart one = joined-apart n m (take i ms ++ joined (get_or ms i 0) left) apart

-- what is left of the chunks from that of the first line that goes on
abbrev pub left_of : ℕ → ℕ → ℕ → List ℕ → List ℕ
left_of i keep gone ns = cut_in (get_or ns i 0) (keep - first_of i ns) gone (drop (suc i) ns)

left-next : (i keep gone n : ℕ) (ns : List ℕ) → n ≤ keep → left_of i (keep - n) gone ns ≡ left_of (suc i) keep gone (n ∷ ns)
left-next i keep gone n ns past =
    let same : keep - n - first_of i ns ≡ keep - (n + first_of i ns) = omega arith in
    ap (λ k. cut_in (get_or ns i 0) k gone (drop (suc i) ns)) same

deleted-left : (keep gone : ℕ) (ns : List ℕ) → AreChunks ns → keep < sum ns → deleted_at keep gone ns ≡ set_before (chunk_of (keep + 1) ns) ns (left_of (chunk_of (keep + 1) ns) keep gone ns)
deleted-left keep gone [] d lt = absurd (omega (arith, lt))
deleted-left keep gone (n ∷ []) d lt =
    let all : sum (n ∷ []) ≡ n + 0 = sum_by-cons (λ x. x) n [] in
    let here : keep < n = omega (arith, lt, all) in
    let none : keep ≡ keep - 0 = omega arith in
    ap (λ b. if b then cut_in n keep gone [] else joined n []) (lt-ltb keep n here) ∙ ap (λ k. cut_in n k gone []) none
deleted-left keep gone (n ∷ m ∷ ms) d lt = at (nat_lt keep n) refl (deleted-left (keep - n) gone (m ∷ ms) d.3)
  where
    at : (here : Bool) → nat_lt keep n ≡ here
        → (keep - n < sum (m ∷ ms) → deleted_at (keep - n) gone (m ∷ ms) ≡ set_before (chunk_of (keep - n + 1) (m ∷ ms)) (m ∷ ms) (left_of (chunk_of (keep - n + 1) (m ∷ ms)) (keep - n) gone (m ∷ ms)))
        → (if here then cut_in n keep gone (m ∷ ms) else joined n (deleted_at (keep - n) gone (m ∷ ms)))
        ≡ set_before (chunk_of (keep + 1) (n ∷ m ∷ ms)) (n ∷ m ∷ ms) (left_of (chunk_of (keep + 1) (n ∷ m ∷ ms)) keep gone (n ∷ m ∷ ms))
    at true is rest =
        let first : chunk_of (keep + 1) (n ∷ m ∷ ms) ≡ 0 = first-chunk keep n (m ∷ ms) (lt-true keep n is) in
        let none : keep ≡ keep - 0 = omega arith in
        ap (λ k. cut_in n k gone (m ∷ ms)) none ∙ ap (λ i. set_before i (n ∷ m ∷ ms) (left_of i keep gone (n ∷ m ∷ ms))) (sym first)
    at false is rest =
        let past = lt-false keep n is in
        let all : sum (n ∷ m ∷ ms) ≡ n + sum (m ∷ ms) = sum_by-cons (λ x. x) n (m ∷ ms) in
        let i = chunk_of (keep - n + 1) (m ∷ ms) in
        let one : keep + 1 - n ≡ keep - n + 1 = omega (arith, past) in
        let next : chunk_of (keep + 1) (n ∷ m ∷ ms) ≡ suc i = later-chunk (keep + 1) n m ms (omega (arith, past)) ∙ ap (λ k. suc (chunk_of k (m ∷ ms))) one in
        ap (joined n) (rest (omega (arith, lt, all, past)))
        ∙ set-next n m ms i (left_of i (keep - n) gone (m ∷ ms)) d.2 d.3.0
        ∙ ap (λ xs. set_before (suc i) (n ∷ m ∷ ms) xs) (left-next i keep gone n (m ∷ ms) past)
        ∙ ap (λ k. set_before k (n ∷ m ∷ ms) (left_of k keep gone (n ∷ m ∷ ms))) (sym next)

-- ---- the last of them

joined-none : (ns : List ℕ) → AreChunks ns → joined 0 ns ≡ ns
joined-none [] d = refl
joined-none (n ∷ ns) d =
    let same : 0 + n ≡ n = omega arith in
    ap (λ b. if b then 0 ∷ n ∷ ns else (0 + n) ∷ ns) (le-ltb full (0 + n) (omega (arith, d.1))) ∙ ap (λ k. k ∷ ns) same

-- what is left of the chunk that has the last of so many lines, before those behind it
abbrev pub rest_of : ℕ → ℕ → List ℕ → List ℕ
rest_of k count ns = joined (first_of (suc k) ns - count) (drop (suc k) ns)

without-rest : (count : ℕ) (ns : List ℕ) → AreChunks ns → 1 ≤ count → count ≤ sum ns → without count ns ≡ rest_of (chunk_of count ns) count ns
without-rest count [] d one le = absurd (omega (arith, one, le))
without-rest count (n ∷ []) d one le = at (nat_lt count n) refl
  where
    at : (short : Bool) → nat_lt count n ≡ short → (if short then joined (n - count) [] else []) ≡ joined (n + 0 - count) []
    at true is =
        let same : n - count ≡ n + 0 - count = omega arith in
        ap (λ k. joined k []) same
    at false is =
        let all : sum (n ∷ []) ≡ n + 0 = sum_by-cons (λ x. x) n [] in
        let none : 0 ≡ n + 0 - count = omega (arith, lt-false count n is) in
        ap (λ k. joined k []) none
without-rest count (n ∷ m ∷ ms) d one le = at (nat_lt count n) refl (nat_lt n count) refl (without-rest (count - n) (m ∷ ms) d.3)
  where
    at : (short : Bool) → nat_lt count n ≡ short → (past : Bool) → nat_lt n count ≡ past
        → (1 ≤ count - n → count - n ≤ sum (m ∷ ms) → without (count - n) (m ∷ ms) ≡ rest_of (chunk_of (count - n) (m ∷ ms)) (count - n) (m ∷ ms))
        → (if short then joined (n - count) (m ∷ ms) else without (count - n) (m ∷ ms))
        ≡ rest_of (if past then suc (chunk_of (count - n) (m ∷ ms)) else 0) count (n ∷ m ∷ ms)
    at true s true p rest = absurd (omega (arith, lt-true count n s, lt-true n count p))
    at true s false p rest =
        let same : n - count ≡ n + 0 - count = omega arith in
        ap (λ k. joined k (m ∷ ms)) same
    at false s true p rest =
        let all : sum (n ∷ m ∷ ms) ≡ n + sum (m ∷ ms) = sum_by-cons (λ x. x) n (m ∷ ms) in
        let over = lt-true n count p in
        let k = chunk_of (count - n) (m ∷ ms) in
        let same : first_of (suc k) (m ∷ ms) - (count - n) ≡ n + first_of (suc k) (m ∷ ms) - count = omega (arith, over) in
        rest (omega (arith, over)) (omega (arith, le, all, over)) ∙ ap (λ t. joined t (drop (suc k) (m ∷ ms))) same
    at false s false p rest =
        let none : count - n ≡ 0 = omega (arith, lt-false n count p) in
        let whole : 0 ≡ n + 0 - count = omega (arith, lt-false n count p, lt-false count n s) in
        ap (λ k. without k (m ∷ ms)) none ∙ without-none m ms d.3 ∙ sym (joined-none (m ∷ ms) d.3) ∙ ap (λ k. joined k (m ∷ ms)) whole

-- what is left of the first and of the last
pub left-both : (keep gone : ℕ) (ns : List ℕ) → AreChunks ns → 1 ≤ gone → keep + gone ≤ sum ns
    → left_of (chunk_of (keep + 1) ns) keep gone ns ≡ joined (keep - first_of (chunk_of (keep + 1) ns) ns) (rest_of (chunk_of (keep + gone) ns) (keep + gone) ns)
left-both keep gone [] d one le = absurd (omega (arith, one, le))
left-both keep gone (n ∷ []) d one le =
    let all : sum (n ∷ []) ≡ n + 0 = sum_by-cons (λ x. x) n [] in
    let short : gone ≤ n - (keep - 0) = omega (arith, le, all, one) in
    let same : n - (keep - 0) - gone ≡ n + 0 - (keep + gone) = omega (arith, le, all) in
    ap (λ b. if b then joined (keep - 0) [] else joined (keep - 0) (joined (n - (keep - 0) - gone) [])) (le-ltb (n - (keep - 0)) gone short)
    ∙ ap (λ k. joined (keep - 0) (joined k [])) same
left-both keep gone (n ∷ m ∷ ms) d one le = at (nat_lt n (keep + 1)) refl (nat_lt n (keep + gone)) refl (left-both (keep - n) gone (m ∷ ms) d.3)
  where
    all : sum (n ∷ m ∷ ms) ≡ n + sum (m ∷ ms)
    all = sum_by-cons (λ x. x) n (m ∷ ms)

    at : (past : Bool) → nat_lt n (keep + 1) ≡ past → (over : Bool) → nat_lt n (keep + gone) ≡ over
        → (1 ≤ gone → keep - n + gone ≤ sum (m ∷ ms)
        → left_of (chunk_of (keep - n + 1) (m ∷ ms)) (keep - n) gone (m ∷ ms) ≡ joined (keep - n - first_of (chunk_of (keep - n + 1) (m ∷ ms)) (m ∷ ms)) (rest_of (chunk_of (keep - n + gone) (m ∷ ms)) (keep - n + gone) (m ∷ ms)))
        → left_of (if past then suc (chunk_of (keep + 1 - n) (m ∷ ms)) else 0) keep gone (n ∷ m ∷ ms)
        ≡ joined (keep - first_of (if past then suc (chunk_of (keep + 1 - n) (m ∷ ms)) else 0) (n ∷ m ∷ ms)) (rest_of (if over then suc (chunk_of (keep + gone - n) (m ∷ ms)) else 0) (keep + gone) (n ∷ m ∷ ms))
    at true p true o rest =
        let whole = lt-true n (keep + 1) p in
        let first : keep - n + 1 ≡ keep + 1 - n = omega (arith, whole) in
        let last : keep - n + gone ≡ keep + gone - n = omega (arith, whole) in
        let i = chunk_of (keep + 1 - n) (m ∷ ms) in
        let j = chunk_of (keep + gone - n) (m ∷ ms) in
        let head : keep - n - first_of i (m ∷ ms) ≡ keep - (n + first_of i (m ∷ ms)) = omega arith in
        let tail : first_of (suc j) (m ∷ ms) - (keep + gone - n) ≡ n + first_of (suc j) (m ∷ ms) - (keep + gone) = omega (arith, lt-true n (keep + gone) o) in
        sym (left-next i keep gone n (m ∷ ms) (omega (arith, whole)))
        ∙ ap (λ k. left_of (chunk_of k (m ∷ ms)) (keep - n) gone (m ∷ ms)) (sym first)
        ∙ rest one (omega (arith, le, all, whole))
        ∙ ap (λ k. joined (keep - n - first_of (chunk_of k (m ∷ ms)) (m ∷ ms)) (rest_of (chunk_of (keep - n + gone) (m ∷ ms)) (keep - n + gone) (m ∷ ms))) first
        ∙ ap (λ k. joined (keep - n - first_of i (m ∷ ms)) (rest_of (chunk_of k (m ∷ ms)) k (m ∷ ms))) last
        ∙ ap (λ k. joined k (rest_of j (keep + gone - n) (m ∷ ms))) head
        ∙ ap (λ k. joined (keep - (n + first_of i (m ∷ ms))) (joined k (drop (suc j) (m ∷ ms)))) tail
    at true p false o rest = absurd (omega (arith, lt-true n (keep + 1) p, lt-false n (keep + gone) o, one))
    at false p true o rest =
        let within = lt-false n (keep + 1) p in
        let over = lt-true n (keep + gone) o in
        let more : n - (keep - 0) < gone = omega (arith, over, within) in
        let count : gone - (n - (keep - 0)) ≡ keep + gone - n = omega (arith, within) in
        let j = chunk_of (keep + gone - n) (m ∷ ms) in
        let tail : first_of (suc j) (m ∷ ms) - (keep + gone - n) ≡ n + first_of (suc j) (m ∷ ms) - (keep + gone) = omega (arith, over) in
        ap (λ b. if b then joined (keep - 0) (without (gone - (n - (keep - 0))) (m ∷ ms)) else joined (keep - 0) (joined (n - (keep - 0) - gone) (m ∷ ms))) (lt-ltb (n - (keep - 0)) gone more)
        ∙ ap (λ k. joined (keep - 0) (without k (m ∷ ms))) count
        ∙ ap (λ xs. joined (keep - 0) xs) (without-rest (keep + gone - n) (m ∷ ms) d.3 (omega (arith, over)) (omega (arith, le, all, over)))
        ∙ ap (λ k. joined (keep - 0) (joined k (drop (suc j) (m ∷ ms)))) tail
    at false p false o rest =
        let within = lt-false n (keep + 1) p in
        let short : gone ≤ n - (keep - 0) = omega (arith, lt-false n (keep + gone) o, within) in
        let tail : n - (keep - 0) - gone ≡ n + 0 - (keep + gone) = omega (arith, within) in
        ap (λ b. if b then joined (keep - 0) (without (gone - (n - (keep - 0))) (m ∷ ms)) else joined (keep - 0) (joined (n - (keep - 0) - gone) (m ∷ ms))) (le-ltb (n - (keep - 0)) gone short)
        ∙ ap (λ k. joined (keep - 0) (joined k (m ∷ ms))) tail

-- ---- as the chunks are set before one another

-- there is a chunk before others, if there are any
abbrev pub IsWhole : List ℕ → List ℕ → Type 0
IsWhole ns rest = (rest ≡ []) ⊎ ((x : ℕ) × (xs : List ℕ) × (ns ≡ x ∷ xs))

pub joined-append : (n : ℕ) (ns rest : List ℕ) → IsWhole ns rest → joined n ns ++ rest ≡ joined n (ns ++ rest)
joined-append n ns rest (inl none) = ap (λ xs. joined n ns ++ xs) none ∙ append-nil (joined n ns) ∙ ap (λ xs. joined n xs) (sym (append-nil ns)) ∙ ap (λ xs. joined n (ns ++ xs)) (sym none)
joined-append n ns rest (inr some) = subst (λ ys. joined n ys ++ rest ≡ joined n (ys ++ rest)) (sym some.2) (at (nat_lt full (n + some.0)))
  where
    at : (apart : Bool)
        → (if apart then n ∷ some.0 ∷ some.1 else (n + some.0) ∷ some.1) ++ rest ≡ (if apart then n ∷ some.0 ∷ (some.1 ++ rest) else (n + some.0) ∷ (some.1 ++ rest))
    at true = refl
    at false = refl

joined-whole : (n : ℕ) (ns rest : List ℕ) → IsWhole ns rest → IsWhole (joined n ns) rest
joined-whole n ns rest (inl none) = inl none
joined-whole n ns rest (inr some) = subst (λ ys. IsWhole (joined n ys) rest) (sym some.2) (at (nat_lt full (n + some.0)))
  where
    at : (apart : Bool) → IsWhole (if apart then n ∷ some.0 ∷ some.1 else (n + some.0) ∷ some.1) rest
    at true = inr (n, some.0 ∷ some.1, refl)
    at false = inr (n + some.0, some.1, refl)

one-whole : (ns : List ℕ) → IsWhole (take 1 ns) (drop 1 ns)
one-whole [] = inl refl
one-whole (n ∷ ns) = inr (n, [], refl)

one-all : (ns : List ℕ) → take 1 ns ++ drop 1 ns ≡ ns
one-all [] = refl
one-all (n ∷ ns) = refl

past-one : (at : ℕ) (ns : List ℕ) → drop (at + length (take 1 (drop at ns))) ns ≡ drop 1 (drop at ns)
past-one zero [] = refl
past-one zero (n ∷ ns) = refl
past-one (suc at) [] =
    let none : List ℕ = [] in
    let same : suc at + 0 ≡ suc (at + 0) = omega arith in
    ap (λ k. drop k none) same
past-one (suc at) (n ∷ ns) =
    let same : suc at + length (take 1 (drop at ns)) ≡ suc (at + length (take 1 (drop at ns))) = omega arith in
    ap (λ k. drop k (n ∷ ns)) same ∙ past-one at ns

-- what is left of the first and of the last, and the chunk behind them
both-set : (ns : List ℕ) (j head tail len : ℕ) (news one two : List ℕ) → news ≡ take 1 (drop (j + 1) ns) → one ≡ joined tail news → two ≡ joined head one → len ≡ length news
    → (two ++ drop (j + 1 + len) ns ≡ joined head (joined tail (drop (suc j) ns))) × IsWhole two (drop (j + 1 + len) ns)
both-set ns j head tail len news one two n o t l =
    let rest = drop (j + 1) ns in
    let next : j + 1 ≡ suc j = omega arith in
    let made : two ≡ joined head (joined tail (take 1 rest)) = t ∙ ap (joined head) (o ∙ ap (joined tail) n) in
    let behind : drop (j + 1 + len) ns ≡ drop 1 rest = ap (λ k. drop (j + 1 + k) ns) (l ∙ ap length n) ∙ past-one (j + 1) ns in
    let first = joined-whole tail (take 1 rest) (drop 1 rest) (one-whole rest) in
    let whole = joined-whole head (joined tail (take 1 rest)) (drop 1 rest) first in (
      (λ i. made i ++ behind i)
          ∙ joined-append head (joined tail (take 1 rest)) (drop 1 rest) first
          ∙ ap (joined head) (joined-append tail (take 1 rest) (drop 1 rest) (one-whole rest))
          ∙ ap (λ xs. joined head (joined tail xs)) (one-all rest)
          ∙ ap (λ k. joined head (joined tail (drop k ns))) next,
      subst (λ xs. IsWhole xs (drop (j + 1 + len) ns)) (sym made) (subst (λ xs. IsWhole (joined head (joined tail (take 1 rest))) xs) (sym behind) whole),
    )

left-is : (keep gone : ℕ) (ns : List ℕ) → AreChunks ns → 1 ≤ gone → keep + gone ≤ sum ns → (i j head tail : ℕ) → i ≡ chunk_of (keep + 1) ns → j ≡ chunk_of (keep + gone) ns → j < length ns
    → head ≡ keep - sum (take i ns) → tail ≡ sum (take j ns) + get_or ns j 0 - (keep + gone) → left_of i keep gone ns ≡ joined head (joined tail (drop (suc j) ns))
left-is keep gone ns d one le i j head tail first last within h t =
    let next : j + 1 ≡ suc j = omega arith in
    let ends : first_of (suc j) ns ≡ sum (take j ns) + get_or ns j 0 = first-sum (suc j) ns ∙ ap (λ k. sum (take k ns)) (sym next) ∙ sum_by_more (λ x. x) ns j 0 within in
    let same : first_of (suc j) ns - (keep + gone) ≡ tail = ap (λ k. k - (keep + gone)) ends ∙ sym t in
    let begins : keep - first_of i ns ≡ head = ap (λ k. keep - k) (first-sum i ns) ∙ sym h in
    ap (λ k. left_of k keep gone ns) first ∙ left-both keep gone ns d one le
    ∙ ap (λ k. joined (keep - first_of k ns) (rest_of (chunk_of (keep + gone) ns) (keep + gone) ns)) (sym first)
    ∙ ap (λ k. joined (keep - first_of i ns) (rest_of k (keep + gone) ns)) (sym last)
    ∙ (λ k. joined (begins k) (joined (same k) (drop (suc j) ns)))

-- the same of lines that go after the first `keep`, up to the first `from`
pub cut-both : (keep from : ℕ) (ns : List ℕ) → AreChunks ns → keep < from → from ≤ sum ns → (i j before under len : ℕ) (news one two : List ℕ)
    → i ≡ chunk_of (keep + 1) ns → before ≡ sum (take i ns) → j ≡ chunk_of from ns → j < length ns → under ≡ sum (take j ns)
    → news ≡ take 1 (drop (j + 1) ns) → len ≡ length news → one ≡ joined (under + get_or ns j 0 - from) news → two ≡ joined (keep - before) one
    → (two ++ drop (j + 1 + len) ns ≡ left_of i keep (from - keep) ns) × IsWhole two (drop (j + 1 + len) ns)
cut-both keep from ns d some within i j before under len news one two first b last lt u n l o t =
    let gone = from - keep in
    let all : keep + gone ≡ from = omega (arith, some) in
    let at : j ≡ chunk_of (keep + gone) ns = last ∙ ap (λ k. chunk_of k ns) (sym all) in
    let head : keep - before ≡ keep - sum (take i ns) = ap (λ k. keep - k) b in
    let tail : under + get_or ns j 0 - from ≡ sum (take j ns) + get_or ns j 0 - (keep + gone) = omega (arith, u, all) in
    let both = both-set ns j (keep - before) (under + get_or ns j 0 - from) len news one two n o t l in
    (both.0 ∙ sym (left-is keep gone ns d (omega (arith, some)) (omega (arith, all, within)) i j _ _ first at lt head tail), both.1)

pub deleted-cut-at : (keep from : ℕ) (ns : List ℕ) → AreChunks ns → keep < from → from ≤ sum ns → (i : ℕ) → i ≡ chunk_of (keep + 1) ns
    → set_before i ns (left_of i keep (from - keep) ns) ≡ deleted_at keep (from - keep) ns
deleted-cut-at keep from ns d some within i first =
    ap (λ k. set_before k ns (left_of k keep (from - keep) ns)) first ∙ sym (deleted-left keep (from - keep) ns d (omega (arith, some, within)))

pub chunk-order : (a b : ℕ) (ns : List ℕ) → a ≤ b → chunk_of a ns ≤ chunk_of b ns
chunk-order a b [] le = omega arith
chunk-order a b (n ∷ []) le = omega arith
chunk-order a b (n ∷ m ∷ ms) le = at (nat_lt n a) refl (nat_lt n b) refl (chunk-order (a - n) (b - n) (m ∷ ms) (omega (arith, le)))
  where
    at : (first : Bool) → nat_lt n a ≡ first → (last : Bool) → nat_lt n b ≡ last → chunk_of (a - n) (m ∷ ms) ≤ chunk_of (b - n) (m ∷ ms)
        → (if first then suc (chunk_of (a - n) (m ∷ ms)) else 0) ≤ (if last then suc (chunk_of (b - n) (m ∷ ms)) else 0)
    at true f true l rest = omega (arith, rest)
    at true f false l rest = absurd (omega (arith, lt-true n a f, lt-false n b l, le))
    at false f true l rest = omega arith
    at false f false l rest = omega arith

first-order : (a b : ℕ) (ns : List ℕ) → a ≤ b → first_of a ns ≤ first_of b ns
first-order zero b ns le = omega arith
first-order (suc a) zero ns le = absurd (omega (arith, le))
first-order (suc a) (suc b) [] le = omega arith
first-order (suc a) (suc b) (n ∷ ns) le = omega (arith, first-order a b ns (omega (arith, le)))

-- more chunks have no fewer lines
pub sum-order : (a b : ℕ) (ns : List ℕ) → a ≤ b → sum (take a ns) ≤ sum (take b ns)
sum-order a b ns le = omega (arith, first-order a b ns le, first-sum a ns, first-sum b ns)
