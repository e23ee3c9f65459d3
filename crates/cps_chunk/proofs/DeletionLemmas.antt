-- The chunks that stay around a deletion.
use Rattle.std.proofs.Common.{◌≡◌, ◌⊎◌, inl, inr, ℕ, zero, suc, ◌+◌, ◌-◌, ◌<◌, ◌≤◌, refl, sym, ap, subst, ◌∙◌, List, [], ◌∷◌, ◌++◌, take, drop, true, false, Bool, arith}
use Rattle.std.specs.Prelude.{if◌then◌else◌, nat_lt}
use Rattle.std.proofs.lemmas.Bool.{lt-ltb, le-ltb}
use Rattle.cps_chunk.specs.Division.{full, IsApart, AreChunks, joined, without, cut_in, deleted_at, chunk_of, StayAround}
use Rattle.cps_chunk.proofs.DivisionLemmas.{lt-true, lt-false, joined-again}

-- ---- chunks that end as others do

-- they end with these, and with one more before them if there are any
abbrev pub EndsWith : List ℕ → List ℕ → Type 0
EndsWith last ns = ((ns ≡ []) × (last ≡ [])) ⊎ ((x : ℕ) × (xs : List ℕ) × (ns ≡ x ∷ (xs ++ last)))

ends-changed : (last ns : List ℕ) → EndsWith last ns → (changed : List ℕ) × (ns ≡ changed ++ last)
ends-changed last ns (inl none) = ([], none.0 ∙ sym none.1)
ends-changed last ns (inr some) = (some.0 ∷ some.1, some.2)

-- what is joined before them changes one alone
pub joined-ends : (n : ℕ) (last ns : List ℕ) → EndsWith last ns → EndsWith last (joined n ns)
joined-ends n last ns (inl none) = subst (λ xs. EndsWith last (joined n xs)) (sym none.0) (at (nat_lt 0 n))
  where
    at : (some : Bool) → EndsWith last (if some then n ∷ [] else [])
    at true = inr (n, [], ap (λ xs. n ∷ xs) (sym none.1))
    at false = inl (refl, none.1)
joined-ends n last ns (inr some) = subst (λ xs. EndsWith last (joined n xs)) (sym some.2) (at (nat_lt full (n + some.0)))
  where
    at : (apart : Bool) → EndsWith last (if apart then n ∷ some.0 ∷ (some.1 ++ last) else (n + some.0) ∷ (some.1 ++ last))
    at true = inr (n, some.0 ∷ some.1, refl)
    at false = inr (n + some.0, some.1, refl)

-- ---- behind the deletion

pub joined-apart-same : (n : ℕ) (ns : List ℕ) → 1 ≤ n → IsApart n ns → joined n ns ≡ n ∷ ns
joined-apart-same n [] one apart = ap (λ b. if b then n ∷ [] else []) (lt-ltb 0 n one)
joined-apart-same n (m ∷ ms) one apart = ap (λ b. if b then n ∷ m ∷ ms else (n + m) ∷ ms) (lt-ltb full (n + m) apart)

pub without-none : (m : ℕ) (ms : List ℕ) → AreChunks (m ∷ ms) → without 0 (m ∷ ms) ≡ m ∷ ms
without-none m ms d =
    let same : m - 0 ≡ m = omega arith in
    ap (λ b. if b then joined (m - 0) ms else without (0 - m) ms) (lt-ltb 0 m d.0) ∙ ap (λ k. joined k ms) same ∙ joined-apart-same m ms d.0 d.2

without-ends : (c : ℕ) (ns : List ℕ) → AreChunks ns → EndsWith (drop 2 (drop (chunk_of c ns) ns)) (without c ns)
without-ends c [] d = inl (refl, refl)
without-ends c (n ∷ []) d = at (nat_lt c n)
  where
    at : (short : Bool) → EndsWith [] (if short then joined (n - c) [] else [])
    at true = joined-ends (n - c) [] [] (inl (refl, refl))
    at false = inl (refl, refl)
without-ends c (n ∷ m ∷ ms) d = at (without-ends (c - n) (m ∷ ms) d.3) (nat_lt n c) refl (nat_lt c n) refl
  where
    at : EndsWith (drop 2 (drop (chunk_of (c - n) (m ∷ ms)) (m ∷ ms))) (without (c - n) (m ∷ ms)) → (past : Bool) → nat_lt n c ≡ past → (short : Bool) → nat_lt c n ≡ short
        → EndsWith (drop 2 (drop (if past then suc (chunk_of (c - n) (m ∷ ms)) else 0) (n ∷ m ∷ ms))) (if short then joined (n - c) (m ∷ ms) else without (c - n) (m ∷ ms))
    at rest true p true s = absurd (omega (arith, lt-true n c p, lt-true c n s))
    at rest true p false s = rest
    at rest false p true s = joined-ends (n - c) ms (m ∷ ms) (inr (m, [], refl))
    at rest false p false s =
        let none : 0 ≡ c - n = omega (arith, lt-false n c p) in
        subst (λ k. EndsWith ms (without k (m ∷ ms))) none (inr (m, [], without-none m ms d.3))

-- ---- at its first chunk

cut_in-ends : (n keep gone : ℕ) (ns : List ℕ) → keep < n → AreChunks ns → EndsWith (drop 2 (drop (chunk_of (keep + gone) (n ∷ ns)) (n ∷ ns))) (cut_in n keep gone ns)
cut_in-ends n keep gone [] lt d = at (nat_lt (n - keep) gone)
  where
    at : (past : Bool) → EndsWith [] (if past then joined keep [] else joined keep (joined (n - keep - gone) []))
    at true = joined-ends keep [] [] (inl (refl, refl))
    at false = joined-ends keep [] (joined (n - keep - gone) []) (joined-ends (n - keep - gone) [] [] (inl (refl, refl)))
cut_in-ends n keep gone (m ∷ ms) lt d = at (nat_lt n (keep + gone)) refl (nat_lt (n - keep) gone) refl
  where
    at : (past : Bool) → nat_lt n (keep + gone) ≡ past → (more : Bool) → nat_lt (n - keep) gone ≡ more
        → EndsWith (drop 2 (drop (if past then suc (chunk_of (keep + gone - n) (m ∷ ms)) else 0) (n ∷ m ∷ ms)))
        (if more then joined keep (without (gone - (n - keep)) (m ∷ ms)) else joined keep (joined (n - keep - gone) (m ∷ ms)))
    at true p true q =
        let same : gone - (n - keep) ≡ keep + gone - n = omega (arith, lt) in
        let last = drop 2 (drop (chunk_of (keep + gone - n) (m ∷ ms)) (m ∷ ms)) in
        joined-ends keep last (without (gone - (n - keep)) (m ∷ ms))
        (subst (λ k. EndsWith last (without k (m ∷ ms))) (sym same) (without-ends (keep + gone - n) (m ∷ ms) d))
    at true p false q = absurd (omega (arith, lt-true n (keep + gone) p, lt-false (n - keep) gone q, lt))
    at false p true q = absurd (omega (arith, lt-false n (keep + gone) p, lt-true (n - keep) gone q, lt))
    at false p false q = joined-ends keep ms (joined (n - keep - gone) (m ∷ ms)) (joined-ends (n - keep - gone) ms (m ∷ ms) (inr (m, [], refl)))

-- ---- before it

-- chunks before one stay, but for the last of them
abbrev IsCut : ℕ → ℕ → List ℕ → List ℕ → Type 0
IsCut from to olds news = (changed : List ℕ) × (news ≡ take (from - 1) olds ++ changed) × EndsWith (drop 2 (drop to olds)) changed

-- one chunk more before it
before-cut : (n m : ℕ) (ms : List ℕ) (from to : ℕ) (news : List ℕ) → IsCut from to (m ∷ ms) news → (from ≡ 0) ⊎ (joined n news ≡ n ∷ news)
    → IsCut (suc from) (suc to) (n ∷ m ∷ ms) (joined n news)
before-cut n m ms zero to news cut either = (joined n cut.0, ap (joined n) cut.1, joined-ends n (drop 2 (drop to (m ∷ ms))) cut.0 cut.2)
before-cut n m ms (suc from) to news cut (inl none) = absurd (omega (arith, none))
before-cut n m ms (suc from) to news cut (inr stays) =
    let one : suc from - 1 ≡ from = omega arith in
    let two : suc from ≡ suc (suc from) - 1 = omega arith in
    (cut.0, stays ∙ ap (λ xs. n ∷ xs) (cut.1 ∙ ap (λ k. take k (m ∷ ms) ++ cut.0) one) ∙ ap (λ k. take k (n ∷ m ∷ ms) ++ cut.0) two, cut.2)

pub first-chunk : (keep m : ℕ) (ms : List ℕ) → keep < m → chunk_of (keep + 1) (m ∷ ms) ≡ 0
first-chunk keep m [] lt = refl
first-chunk keep m (k ∷ ks) lt =
    let short : keep + 1 ≤ m = omega (arith, lt) in
    ap (λ b. if b then suc (chunk_of (keep + 1 - m) (k ∷ ks)) else 0) (le-ltb m (keep + 1) short)

pub later-chunk : (at n m : ℕ) (ms : List ℕ) → n < at → chunk_of at (n ∷ m ∷ ms) ≡ suc (chunk_of (at - n) (m ∷ ms))
later-chunk at n m ms lt = ap (λ b. if b then suc (chunk_of (at - n) (m ∷ ms)) else 0) (lt-ltb n at lt)

-- a chunk before one that is whole stays
stays-before : (n m keep gone : ℕ) (ms : List ℕ) → full < n + m → 1 ≤ m
    → (chunk_of (keep + 1) (m ∷ ms) ≡ 0) ⊎ (joined n (deleted_at keep gone (m ∷ ms)) ≡ n ∷ deleted_at keep gone (m ∷ ms))
stays-before n m keep gone ms apart one = at (nat_lt keep m) refl
  where
    at : (cut : Bool) → nat_lt keep m ≡ cut
        → (chunk_of (keep + 1) (m ∷ ms) ≡ 0)
        ⊎ (joined n (if cut then cut_in m keep gone ms else joined m (deleted_at (keep - m) gone ms)) ≡ n ∷ (if cut then cut_in m keep gone ms else joined m (deleted_at (keep - m) gone ms)))
    at true is = inl (first-chunk keep m ms (lt-true keep m is))
    at false is = inr (joined-again n m (deleted_at (keep - m) gone ms) apart one)

-- where nothing goes between two chunks, both stay or are joined
nothing-ends : (m : ℕ) (ms : List ℕ) → AreChunks (m ∷ ms) → EndsWith ms (deleted_at 0 0 (m ∷ ms))
nothing-ends m ms d =
    let same : m - 0 - 0 ≡ m = omega arith in
    let all : deleted_at 0 0 (m ∷ ms) ≡ joined 0 (joined m ms) =
    ap (λ b. if b then cut_in m 0 0 ms else joined m (deleted_at (0 - m) 0 ms)) (lt-ltb 0 m d.0)
    ∙ ap (λ b. if b then joined 0 (without (0 - (m - 0)) ms) else joined 0 (joined (m - 0 - 0) ms)) (le-ltb (m - 0) 0 (omega arith))
    ∙ ap (λ k. joined 0 (joined k ms)) same in
    subst (λ xs. EndsWith ms xs) (sym all) (joined-ends 0 ms (joined m ms) (inr (m, [], joined-apart-same m ms d.0 d.2)))

nothing-cut : (keep gone n m : ℕ) (ms : List ℕ) → n ≤ keep → keep + gone ≤ n → AreChunks (m ∷ ms)
    → IsCut (chunk_of (keep + 1) (n ∷ m ∷ ms)) (chunk_of (keep + gone) (n ∷ m ∷ ms)) (n ∷ m ∷ ms) (joined n (deleted_at (keep - n) gone (m ∷ ms)))
nothing-cut keep gone n m ms le past d =
    let whole : keep - n ≡ 0 = omega (arith, le, past) in
    let nothing : gone ≡ 0 = omega (arith, le, past) in
    let before : n < keep + 1 = omega (arith, le) in
    let one : keep + 1 - n ≡ 0 + 1 = omega (arith, le, past) in
    let from : chunk_of (keep + 1) (n ∷ m ∷ ms) ≡ 1 =
    later-chunk (keep + 1) n m ms before ∙ ap (λ k. suc (chunk_of k (m ∷ ms))) one ∙ ap (λ k. suc k) (first-chunk 0 m ms d.0) in
    let to : chunk_of (keep + gone) (n ∷ m ∷ ms) ≡ 0 = ap (λ b. if b then suc (chunk_of (keep + gone - n) (m ∷ ms)) else 0) (le-ltb n (keep + gone) past) in
    let news = deleted_at (keep - n) gone (m ∷ ms) in
    let ends : EndsWith ms news =
    subst (λ k. EndsWith ms (deleted_at k gone (m ∷ ms))) (sym whole) (subst (λ k. EndsWith ms (deleted_at 0 k (m ∷ ms))) (sym nothing) (nothing-ends m ms d)) in
    subst (λ k. IsCut k (chunk_of (keep + gone) (n ∷ m ∷ ms)) (n ∷ m ∷ ms) (joined n news)) (sym from)
    (subst (λ k. IsCut 1 k (n ∷ m ∷ ms) (joined n news)) (sym to) (joined n news, refl, joined-ends n ms news ends))

-- a chunk that is kept whole before the cut
whole-cut : (keep gone n m : ℕ) (ms : List ℕ) → n ≤ keep → n < keep + gone → full < n + m → 1 ≤ m
    → IsCut (chunk_of (keep - n + 1) (m ∷ ms)) (chunk_of (keep - n + gone) (m ∷ ms)) (m ∷ ms) (deleted_at (keep - n) gone (m ∷ ms))
    → IsCut (chunk_of (keep + 1) (n ∷ m ∷ ms)) (chunk_of (keep + gone) (n ∷ m ∷ ms)) (n ∷ m ∷ ms) (joined n (deleted_at (keep - n) gone (m ∷ ms)))
whole-cut keep gone n m ms le behind apart some rest =
    let before : n < keep + 1 = omega (arith, le) in
    let one : keep - n + 1 ≡ keep + 1 - n = omega (arith, le) in
    let two : keep - n + gone ≡ keep + gone - n = omega (arith, le) in
    let from : suc (chunk_of (keep - n + 1) (m ∷ ms)) ≡ chunk_of (keep + 1) (n ∷ m ∷ ms) =
    ap (λ k. suc (chunk_of k (m ∷ ms))) one ∙ sym (later-chunk (keep + 1) n m ms before) in
    let to : suc (chunk_of (keep - n + gone) (m ∷ ms)) ≡ chunk_of (keep + gone) (n ∷ m ∷ ms) =
    ap (λ k. suc (chunk_of k (m ∷ ms))) two ∙ sym (later-chunk (keep + gone) n m ms behind) in
    let news = joined n (deleted_at (keep - n) gone (m ∷ ms)) in
    let cut = before-cut n m ms (chunk_of (keep - n + 1) (m ∷ ms)) (chunk_of (keep - n + gone) (m ∷ ms)) (deleted_at (keep - n) gone (m ∷ ms)) rest
    (stays-before n m (keep - n) gone ms apart some) in
    subst (λ k. IsCut (chunk_of (keep + 1) (n ∷ m ∷ ms)) k (n ∷ m ∷ ms) news) to
    (subst (λ k. IsCut k (suc (chunk_of (keep - n + gone) (m ∷ ms))) (n ∷ m ∷ ms) news) from cut)

deleted-cut : (keep gone : ℕ) (ns : List ℕ) → AreChunks ns → IsCut (chunk_of (keep + 1) ns) (chunk_of (keep + gone) ns) ns (deleted_at keep gone ns)
deleted-cut keep gone [] d = ([], refl, inl (refl, refl))
deleted-cut keep gone (n ∷ []) d = at (nat_lt keep n) refl
  where
    at : (here : Bool) → nat_lt keep n ≡ here → IsCut 0 0 (n ∷ []) (if here then cut_in n keep gone [] else joined n [])
    at true is = (cut_in n keep gone [], refl, cut_in-ends n keep gone [] (lt-true keep n is) tt)
    at false is = (joined n [], refl, joined-ends n [] [] (inl (refl, refl)))
deleted-cut keep gone (n ∷ m ∷ ms) d = at (deleted-cut (keep - n) gone (m ∷ ms) d.3) (nat_lt keep n) refl (nat_lt n (keep + gone)) refl
  where
    at : IsCut (chunk_of (keep - n + 1) (m ∷ ms)) (chunk_of (keep - n + gone) (m ∷ ms)) (m ∷ ms) (deleted_at (keep - n) gone (m ∷ ms))
        → (here : Bool) → nat_lt keep n ≡ here → (past : Bool) → nat_lt n (keep + gone) ≡ past
        → IsCut (chunk_of (keep + 1) (n ∷ m ∷ ms)) (chunk_of (keep + gone) (n ∷ m ∷ ms)) (n ∷ m ∷ ms)
        (if here then cut_in n keep gone (m ∷ ms) else joined n (deleted_at (keep - n) gone (m ∷ ms)))
    at rest true is past over =
        let lt = lt-true keep n is in
        subst (λ k. IsCut k (chunk_of (keep + gone) (n ∷ m ∷ ms)) (n ∷ m ∷ ms) (cut_in n keep gone (m ∷ ms))) (sym (first-chunk keep n (m ∷ ms) lt))
        (cut_in n keep gone (m ∷ ms), refl, cut_in-ends n keep gone (m ∷ ms) lt d.3)
    at rest false is true over = whole-cut keep gone n m ms (lt-false keep n is) (lt-true n (keep + gone) over) d.2 d.3.0 rest
    at rest false is false over = nothing-cut keep gone n m ms (lt-false keep n is) (lt-false n (keep + gone) over) d.3

pub deleted-stay : (keep gone : ℕ) (ns : List ℕ) → AreChunks ns → StayAround (chunk_of (keep + 1) ns - 1) (chunk_of (keep + gone) ns) ns (deleted_at keep gone ns)
deleted-stay keep gone ns d =
    let cut = deleted-cut keep gone ns d in
    let changed = ends-changed (drop 2 (drop (chunk_of (keep + gone) ns) ns)) cut.0 cut.2 in
    (changed.0, cut.1 ∙ ap (λ xs. take (chunk_of (keep + 1) ns - 1) ns ++ xs) changed.1)
