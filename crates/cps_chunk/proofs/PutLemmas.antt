-- Lines that come in the place of others, and the chunks that they give.
use Rattle.std.proofs.Common.{◌≡◌, ℕ, zero, suc, ◌+◌, ◌-◌, ◌<◌, ◌≤◌, refl, sym, ap, subst, ◌∙◌, List, [], ◌∷◌, ◌++◌, append-nil, append_assoc, length, get_or, take, drop, reverse, true, false, Bool, Option, Some, arith}
use Rattle.std.specs.Prelude.{if◌then◌else◌, nat_lt, option_to_list, sum}
use Rattle.std.proofs.lemmas.Bool.{lt-ltb, le-ltb}
use Rattle.std.specs.List.{between}
use Rattle.std.proofs.lemmas.List.{drop_all, length-drop, reverse-append, take_all}
use Rattle.std.proofs.lemmas.List.Sums.{sum_by-cons}
use Rattle.cps_chunk.specs.Division.{full, AreChunks, IsDivision, joined, grown, inserted_at, deleted_at, chunk_of}
use Rattle.cps_chunk.specs.Put.{inserted_each, put_at, Puts}
use Rattle.cps_chunk.specs.Recut.{recut}
use Rattle.cps_chunk.specs.Staying.{same_front}
use Rattle.cps_chunk.specs.Code.GrowingChunks.{StandInFirst}
use Rattle.cps_chunk.proofs.DivisionLemmas.{lt-true, lt-false, inserted-chunks, inserted-sum, deleted-chunks, deleted-sum}
use Rattle.cps_chunk.proofs.StayingLemmas.{chunks-some}
use Rattle.cps_chunk.proofs.TightLemmas.{IsEdit, IsTrimmed, trimmed}

-- ---- a list from its end

pub back-first : (xs ys : List ℕ) (n : ℕ) → xs ≡ ys ++ n ∷ [] → reverse xs ≡ n ∷ reverse ys
back-first xs ys n e = ap reverse e ∙ reverse-append ys (n ∷ [])

-- ---- a line in the first chunk

pub in-first : (at : ℕ) (ns : List ℕ) → StandInFirst at ns → inserted_at at ns ≡ inserted_at 0 ns
in-first at [] h = refl
in-first at (n ∷ []) h = refl
in-first at (n ∷ m ∷ ms) h =
    ap (λ b. if b then n ∷ inserted_at (at - n) (m ∷ ms) else grown n (m ∷ ms)) (le-ltb n at h)
    ∙ sym (ap (λ b. if b then n ∷ inserted_at (0 - n) (m ∷ ms) else grown n (m ∷ ms)) (le-ltb n 0 (omega arith)))

first-grown : (n : ℕ) (ns : List ℕ) → inserted_at 0 (n ∷ ns) ≡ grown n ns
first-grown n [] = refl
first-grown n (m ∷ ms) = ap (λ b. if b then n ∷ inserted_at (0 - n) (m ∷ ms) else grown n (m ∷ ms)) (le-ltb n 0 (omega arith))

pub first-more : (n : ℕ) (ns old new : List ℕ) → old ≡ n ∷ ns → new ≡ (n + 1) ∷ ns → n < full → new ≡ inserted_at 0 old
first-more n ns old new is one short =
    one ∙ sym (ap (λ b. if b then (n + 1) ∷ ns else full ∷ joined 1 ns) (lt-ltb n full short)) ∙ sym (first-grown n ns) ∙ ap (inserted_at 0) (sym is)

-- ---- the last line of a full chunk

pub next-more : (n : ℕ) (ns old new : List ℕ) → old ≡ n ∷ ns → new ≡ (n + 1) ∷ ns → n < full → new ≡ joined 1 old
next-more n ns old new is one short =
    let same : n + 1 ≡ 1 + n = omega arith in
    one ∙ ap (λ k. k ∷ ns) same ∙ sym (ap (λ b. if b then 1 ∷ n ∷ ns else (1 + n) ∷ ns) (le-ltb full (1 + n) (omega (arith, short)))) ∙ ap (joined 1) (sym is)

-- ---- lines behind the first chunk

inserted-some : (a m : ℕ) (ms : List ℕ) → (x : ℕ) × (xs : List ℕ) × (inserted_at a (m ∷ ms) ≡ x ∷ xs)
inserted-some a m [] = at (nat_lt m full)
  where
    at : (b : Bool) → (x : ℕ) × (xs : List ℕ) × ((if b then (m + 1) ∷ [] else full ∷ joined 1 []) ≡ x ∷ xs)
    at true = (m + 1, [], refl)
    at false = (full, joined 1 [], refl)
inserted-some a m (k ∷ ks) = at (nat_lt m a)
  where
    more : (b : Bool) → (x : ℕ) × (xs : List ℕ) × ((if b then (m + 1) ∷ k ∷ ks else full ∷ joined 1 (k ∷ ks)) ≡ x ∷ xs)
    more true = (m + 1, k ∷ ks, refl)
    more false = (full, joined 1 (k ∷ ks), refl)

    at : (b : Bool) → (x : ℕ) × (xs : List ℕ) × ((if b then m ∷ inserted_at (a - m) (k ∷ ks) else grown m (k ∷ ks)) ≡ x ∷ xs)
    at true = (m, inserted_at (a - m) (k ∷ ks), refl)
    at false = more (nat_lt m full)

-- the first chunk stays
each-deeper : (k at n m : ℕ) (ms : List ℕ) → n < at → inserted_each at k (n ∷ m ∷ ms) ≡ n ∷ inserted_each (at - n) k (m ∷ ms)
each-deeper zero at n m ms lt = refl
each-deeper (suc k) at n m ms lt =
    let s = inserted-some (at - n) m ms in
    let one : inserted_at at (n ∷ m ∷ ms) ≡ n ∷ s.0 ∷ s.1 =
    ap (λ b. if b then n ∷ inserted_at (at - n) (m ∷ ms) else grown n (m ∷ ms)) (lt-ltb n at lt) ∙ ap (λ xs. n ∷ xs) s.2 in
    let later : at + 1 - n ≡ at - n + 1 = omega (arith, lt) in
    ap (λ xs. inserted_each (at + 1) k xs) one ∙ each-deeper k (at + 1) n s.0 s.1 (omega (arith, lt))
    ∙ ap (λ a. n ∷ inserted_each a k (s.0 ∷ s.1)) later ∙ ap (λ xs. n ∷ inserted_each (at - n + 1) k xs) (sym s.2)

pub each-behind : (k at n : ℕ) (ns : List ℕ) → 0 < length ns → n < at → inserted_each at k (n ∷ ns) ≡ n ∷ inserted_each (at - n) k ns
each-behind k at n [] some lt = absurd (omega (arith, some))
each-behind k at n (m ∷ ms) some lt = each-deeper k at n m ms lt

-- chunks in front of the line stay
pub each-from : (k at : ℕ) (ns : List ℕ)
    → inserted_each at k ns ≡ take (chunk_of at ns) ns ++ inserted_each (at - sum (take (chunk_of at ns) ns)) k (drop (chunk_of at ns) ns)
each-from k at [] = let same : at ≡ at - 0 = omega arith in ap (λ a. inserted_each a k []) same
each-from k at (n ∷ []) = let same : at ≡ at - 0 = omega arith in ap (λ a. inserted_each a k (n ∷ [])) same
each-from k at (n ∷ m ∷ ms) = by (each-from k (at - n) (m ∷ ms)) (nat_lt n at) refl
  where
    i : ℕ
    i = chunk_of (at - n) (m ∷ ms)

    by : inserted_each (at - n) k (m ∷ ms) ≡ take i (m ∷ ms) ++ inserted_each (at - n - sum (take i (m ∷ ms))) k (drop i (m ∷ ms)) → (b : Bool) → nat_lt n at ≡ b
        → inserted_each at k (n ∷ m ∷ ms)
        ≡ take (if b then suc i else 0) (n ∷ m ∷ ms) ++ inserted_each (at - sum (take (if b then suc i else 0) (n ∷ m ∷ ms))) k (drop (if b then suc i else 0) (n ∷ m ∷ ms))
    by rest true e =
        let first = sum_by-cons (λ x. x) n (take i (m ∷ ms)) in
        let left : at - n - sum (take i (m ∷ ms)) ≡ at - sum (n ∷ take i (m ∷ ms)) = omega (arith, first) in
        each-deeper k at n m ms (lt-true n at e) ∙ ap (λ xs. n ∷ xs) rest ∙ ap (λ a. n ∷ (take i (m ∷ ms) ++ inserted_each a k (drop i (m ∷ ms)))) left
    by rest false e = let same : at ≡ at - 0 = omega arith in ap (λ a. inserted_each a k (n ∷ m ∷ ms)) same

-- ---- where the next line stands

stand-one : (at : ℕ) (ns : List ℕ) → AreChunks ns → at ≤ 1 → StandInFirst at ns
stand-one at [] d le = tt
stand-one at (n ∷ []) d le = tt
stand-one at (n ∷ m ∷ ms) d le = omega (arith, d.0, le)

second-one : (at n m : ℕ) (ms left : List ℕ) (first : ℕ) → AreChunks (n ∷ m ∷ ms) → at ≤ n → (b : Bool) → nat_lt n full ≡ b
    → (if b then (n + 1) ∷ m ∷ ms else full ∷ joined 1 (m ∷ ms)) ≡ first ∷ left → first < at + 1 → AreChunks left → StandInFirst (at + 1 - first) left
second-one at n m ms left first d le true e is lt d' =
    let here : n + 1 ≡ first = ap (λ xs. get_or xs 0 0) is in
    absurd (omega (arith, here, lt, le))
second-one at n m ms left first d le false e is lt d' =
    let here : full ≡ first = ap (λ xs. get_or xs 0 0) is in
    stand-one (at + 1 - first) left d' (omega (arith, here, le, d.1))

-- where the first chunk is done with
pub stand-next : (at : ℕ) (ns left : List ℕ) (first : ℕ) → AreChunks ns → StandInFirst at ns → inserted_at 0 ns ≡ first ∷ left → first < at + 1 → AreChunks left
    → StandInFirst (at + 1 - first) left
stand-next at [] left first d h is lt d' =
    subst (StandInFirst (at + 1 - first)) (ap (drop 1) is) tt
stand-next at (n ∷ []) left first d h is lt d' = by (nat_lt n full) is
  where
    by : (b : Bool) → (if b then (n + 1) ∷ [] else full ∷ joined 1 []) ≡ first ∷ left → StandInFirst (at + 1 - first) left
    by true it = subst (StandInFirst (at + 1 - first)) (ap (drop 1) it) tt
    by false it = subst (StandInFirst (at + 1 - first)) (ap (drop 1) it) tt
stand-next at (n ∷ m ∷ ms) left first d h is lt d' =
    second-one at n m ms left first d h (nat_lt n full) refl (sym (first-grown n (m ∷ ms)) ∙ is) lt d'

-- ---- the whole division

each-divides : (k at count : ℕ) (ns : List ℕ) → IsDivision count ns → IsDivision (count + k) (inserted_each at k ns)
each-divides zero at count ns d = subst (λ n. IsDivision n ns) (omega arith) d
each-divides (suc k) at count ns d =
    let one : IsDivision (count + 1) (inserted_at at ns) =
    record { chunks = inserted-chunks at ns d.chunks; total = inserted-sum at ns d.chunks ∙ ap (λ n. n + 1) d.total } in
    let all : count + 1 + k ≡ count + suc k = omega arith in
    subst (λ n. IsDivision n (inserted_each (at + 1) k (inserted_at at ns))) all (each-divides k (at + 1) (count + 1) (inserted_at at ns) one)

pub puts : Puts
puts keep gone come count ns d within = by (nat_lt come gone) refl
  where
    by : (b : Bool) → nat_lt come gone ≡ b
        → IsDivision (count - gone + come) (if b then deleted_at (keep + come) (gone - come) ns else inserted_each (keep + gone) (come - gone) ns)
    by true e =
        let lt = lt-true come gone e in
        let left : count - (gone - come) ≡ count - gone + come = omega (arith, lt, within) in
        let fits : keep + come + (gone - come) ≤ sum ns = omega (arith, lt, within, d.total) in
        record {
          chunks = deleted-chunks (keep + come) (gone - come) ns d.chunks;
          total = deleted-sum (keep + come) (gone - come) ns fits ∙ ap (λ n. n - (gone - come)) d.total ∙ left;
        }
    by false e =
        let le = lt-false come gone e in
        let all : count + (come - gone) ≡ count - gone + come = omega (arith, le, within) in
        subst (λ n. IsDivision n (inserted_each (keep + gone) (come - gone) ns)) all (each-divides (come - gone) (keep + gone) count ns d)

-- ---- chunks to which lines come

chunks-drop : (i : ℕ) (ns : List ℕ) → AreChunks ns → AreChunks (drop i ns)
chunks-drop zero ns d = d
chunks-drop (suc i) [] d = tt
chunks-drop (suc i) (n ∷ ns) d = chunks-drop i ns d.3

stand-within : (at : ℕ) (ns : List ℕ) → at ≤ get_or ns 0 0 → StandInFirst at ns
stand-within at [] le = tt
stand-within at (n ∷ []) le = tt
stand-within at (n ∷ m ∷ ms) le = le

first-of-drop : (i : ℕ) (ns : List ℕ) → get_or (drop i ns) 0 0 ≡ get_or ns i 0
first-of-drop zero ns = refl
first-of-drop (suc i) [] = refl
first-of-drop (suc i) (n ∷ ns) = first-of-drop i ns

pub begun : (after i before : ℕ) (ns left : List ℕ) → AreChunks ns → i ≡ chunk_of after ns → before ≡ sum (take i ns) → after ≤ before + get_or ns i 0
    → reverse left ≡ drop i ns → AreChunks (reverse left) × StandInFirst (after - before) (reverse left)
begun after i before ns left d is b le back =
    let here = stand-within (after - before) (drop i ns) (omega (arith, first-of-drop i ns, le)) in
    (subst AreChunks (sym back) (chunks-drop i ns d), subst (StandInFirst (after - before)) (sym back) here)

pub begun-all : (count after i before : ℕ) (ns done left : List ℕ) → i ≡ chunk_of after ns → before ≡ sum (take i ns) → done ≡ take i ns → reverse left ≡ drop i ns
    → done ++ inserted_each (after - before) count (reverse left) ≡ inserted_each after count ns
begun-all count after i before ns done left is b front back =
    (λ k. front k ++ inserted_each (after - b k) count (back k))
    ∙ (λ k. take (is k) ns ++ inserted_each (after - sum (take (is k) ns)) count (drop (is k) ns))
    ∙ sym (each-from count after ns)

pub inserted-first-chunks : (at : ℕ) (ns left : List ℕ) (first : ℕ) → AreChunks ns → inserted_at 0 ns ≡ first ∷ left → AreChunks left
inserted-first-chunks at ns left first d is = (subst AreChunks is (inserted-chunks 0 ns d)).3

-- the first of chunks that stand in the other order
pub last-first : (xs ys : List ℕ) (n : ℕ) (last : Option ℕ) → xs ≡ ys ++ option_to_list last → last ≡ Some n → reverse xs ≡ n ∷ reverse ys
last-first xs ys n last is some = back-first xs ys n (is ∙ ap (λ o. ys ++ option_to_list o) some)

-- a line more where the next one stands behind the first chunk
pub inserted-on : (count at first : ℕ) (done done' ns left : List ℕ) → StandInFirst at ns → inserted_at 0 ns ≡ first ∷ left → first < at + 1 → 0 < length left
    → done' ≡ done ++ first ∷ [] → done' ++ inserted_each (at + 1 - first) count left ≡ done ++ inserted_each (at + 1) count (inserted_at at ns)
inserted-on count at first done done' ns left h is lt some more =
    ap (λ xs. xs ++ inserted_each (at + 1 - first) count left) more ∙ append_assoc done (first ∷ []) (inserted_each (at + 1 - first) count left)
    ∙ ap (λ xs. done ++ xs) (sym (each-behind count (at + 1) first left some lt))
    ∙ ap (λ xs. done ++ inserted_each (at + 1) count xs) (sym (in-first at ns h ∙ is))

-- ---- the chunks that stay

-- those that stay at either end of the whole division are taken off
pub put-trimmed : (keep from come front back : ℕ) (news made ns : List ℕ) → AreChunks ns → keep ≤ from → from ≤ sum ns → news ≡ put_at keep (from - keep) come ns
    → front ≡ same_front keep ns news
    → back ≡ same_front (sum ns - from) (reverse (drop front ns)) (reverse (drop front news))
    → made ≡ take (length news - back - front) (drop front news)
    → IsTrimmed keep from front (length ns - back) made (put_at keep (from - keep) come ns) ns
put-trimmed keep from come front back news made ns d order within is first second m =
    let divides = puts keep (from - keep) come (sum ns) ns (record { chunks = d; total = refl }) (omega (arith, order, within)) in
    let whole : recut 0 (length ns) news ns ≡ news = ap (λ xs. news ++ xs) (drop_all (length ns) ns (omega arith)) ∙ append-nil news in
    let all : take (length ns) ns ≡ ns = take_all (length ns) ns (omega arith) in
    let count : length ns - 0 ≡ length ns = omega arith in
    let part : between 0 (length ns) ns ≡ ns = ap (λ k. take k ns) count ∙ all in
    let same : keep ≡ keep - sum (take 0 ns) = omega arith in
    let lines : keep + (sum ns - from) ≤ sum (recut 0 (length ns) news ns) = omega (arith, ap sum whole, ap sum is, divides.total, order, within) in
    let edit : IsEdit keep from 0 (length ns) news ns =
    record { some = chunks-some ns d; ordered = omega arith; within = omega arith; begins = omega arith; order = order; ends = omega (arith, ap sum all, within); lines = lines } in
    let one : front ≡ same_front (keep - sum (take 0 ns)) (between 0 (length ns) ns) news =
    first ∙ (λ k. same_front (same k) (sym part k) news) in
    let two : back ≡ same_front (sum (take (length ns) ns) - from) (reverse (drop front (between 0 (length ns) ns))) (reverse (drop front news)) =
    second ∙ (λ k. same_front (sum (sym all k) - from) (reverse (drop front (sym part k))) (reverse (drop front news))) in
    let t = trimmed keep from 0 (length ns) front back news ns edit one two in
    let left : length (drop front news) - back ≡ length news - back - front = omega (arith, length-drop front news) in
    let so : take (length (drop front news) - back) (drop front news) ≡ made = ap (λ k. take k (drop front news)) left ∙ sym m in
    let start : 0 + front ≡ front = omega arith in
    subst (λ xs. IsTrimmed keep from front (length ns - back) made xs ns) (whole ∙ is)
    (subst (λ xs. IsTrimmed keep from front (length ns - back) xs (recut 0 (length ns) news ns) ns) so
    (subst (λ k. IsTrimmed keep from k (length ns - back) (take (length (drop front news) - back) (drop front news)) (recut 0 (length ns) news ns) ns) start t))
