-- The lengths of chunks after an edit.
use Rattle.std.proofs.Common.{◌≡◌, ℕ, suc, ◌+◌, ◌-◌, ◌<◌, ◌≤◌, refl, sym, ap, ◌∙◌, List, [], ◌∷◌, ◌++◌, true, false, Bool, arith, add_assoc}
use Rattle.std.specs.Prelude.{if◌then◌else◌, nat_lt, sum}
use Rattle.std.proofs.lemmas.List.Sums.{sum_by-cons}
use Rattle.std.proofs.lemmas.Bool.{ltb-true, ltb-false, lt-ltb}
use Rattle.cps_chunk.specs.Division.{full, IsApart, AreChunks, joined, grown, inserted_at, without, cut_in, deleted_at, chunk_of, StayAround}

-- ---- sums and tests

-- the sum from the end on, which computes by the first length
abbrev pub total : List ℕ → ℕ
total [] = 0
total (n ∷ ns) = n + total ns

pub total-sum : (ns : List ℕ) → total ns ≡ sum ns
total-sum [] = refl
total-sum (n ∷ ns) = ap (λ k. n + k) (total-sum ns) ∙ sym (sum_by-cons (λ x. x) n ns)

pub lt-true : (a b : ℕ) → nat_lt a b ≡ true → a < b
lt-true a b h = ltb-true a b h

pub lt-false : (a b : ℕ) → nat_lt a b ≡ false → b ≤ a
lt-false a b h = ltb-false a b h

apart-more : (n m : ℕ) (ns : List ℕ) → n ≤ m → IsApart n ns → IsApart m ns
apart-more n m [] le h = tt
apart-more n m (k ∷ ns) le h = omega (arith, le, h)

pub joined-chunks : (n : ℕ) (ns : List ℕ) → n ≤ full → AreChunks ns → AreChunks (joined n ns)
joined-chunks n [] le d = at (nat_lt 0 n) refl
  where
    at : (b : Bool) → nat_lt 0 n ≡ b → AreChunks (if b then n ∷ [] else [])
    at true e = (omega (arith, lt-true 0 n e), le, tt, tt)
    at false e = tt
joined-chunks n (m ∷ ms) le d = at (nat_lt full (n + m)) refl
  where
    at : (b : Bool) → nat_lt full (n + m) ≡ b → AreChunks (if b then n ∷ m ∷ ms else (n + m) ∷ ms)
    at true e = (omega (arith, lt-true full (n + m) e, d.1), le, lt-true full (n + m) e, d)
    at false e = (omega (arith, d.0), lt-false full (n + m) e, apart-more m (n + m) ms (omega arith) d.2, d.3)

pub joined-total : (n : ℕ) (ns : List ℕ) → total (joined n ns) ≡ n + total ns
joined-total n [] = at (nat_lt 0 n) refl
  where
    at : (b : Bool) → nat_lt 0 n ≡ b → total (if b then n ∷ [] else []) ≡ n + 0
    at true e = refl
    at false e = omega (arith, lt-false 0 n e)
joined-total n (m ∷ ms) = at (nat_lt full (n + m))
  where
    at : (b : Bool) → total (if b then n ∷ m ∷ ms else (n + m) ∷ ms) ≡ n + (m + total ms)
    at true = refl
    at false = add_assoc n m (total ms)

-- what is joined before a division begins with as many lines
pub joined-apart : (k n : ℕ) (ns : List ℕ) → full < k + n → 1 ≤ n → IsApart k (joined n ns)
joined-apart k n [] h one = at (nat_lt 0 n) refl
  where
    at : (b : Bool) → nat_lt 0 n ≡ b → IsApart k (if b then n ∷ [] else [])
    at true e = h
    at false e = tt
joined-apart k n (m ∷ ms) h one = at (nat_lt full (n + m))
  where
    at : (b : Bool) → IsApart k (if b then n ∷ m ∷ ms else (n + m) ∷ ms)
    at true = h
    at false = omega (arith, h)

grown-chunks : (n : ℕ) (ns : List ℕ) → AreChunks (n ∷ ns) → AreChunks (grown n ns)
grown-chunks n ns d = at (nat_lt n full) refl
  where
    at : (b : Bool) → nat_lt n full ≡ b → AreChunks (if b then (n + 1) ∷ ns else full ∷ joined 1 ns)
    at true e = (omega arith, omega (arith, lt-true n full e), apart-more n (n + 1) ns (omega arith) d.2, d.3)
    at false e = (omega arith, omega arith, joined-apart full 1 ns (omega arith) (omega arith), joined-chunks 1 ns (omega arith) d.3)

grown-total : (n : ℕ) (ns : List ℕ) → n ≤ full → total (grown n ns) ≡ n + total ns + 1
grown-total n ns le = at (nat_lt n full) refl
  where
    at : (b : Bool) → nat_lt n full ≡ b → total (if b then (n + 1) ∷ ns else full ∷ joined 1 ns) ≡ n + total ns + 1
    at true e = omega arith
    at false e = omega (arith, joined-total 1 ns, lt-false n full e, le)

-- a chunk before a grown one stays apart
grown-apart : (k n : ℕ) (ns : List ℕ) → full < k + n → 1 ≤ k → IsApart k (grown n ns)
grown-apart k n ns h one = at (nat_lt n full)
  where
    at : (b : Bool) → IsApart k (if b then (n + 1) ∷ ns else full ∷ joined 1 ns)
    at true = omega (arith, h)
    at false = omega (arith, one)

inserted-apart : (k a n : ℕ) (ns : List ℕ) → full < k + n → 1 ≤ k → IsApart k (inserted_at a (n ∷ ns))
inserted-apart k a n [] h one = grown-apart k n [] h one
inserted-apart k a n (m ∷ ms) h one = at (nat_lt n a)
  where
    at : (b : Bool) → IsApart k (if b then n ∷ inserted_at (a - n) (m ∷ ms) else grown n (m ∷ ms))
    at true = h
    at false = grown-apart k n (m ∷ ms) h one

pub inserted-chunks : (a : ℕ) (ns : List ℕ) → AreChunks ns → AreChunks (inserted_at a ns)
inserted-chunks a [] d = (omega arith, omega arith, tt, tt)
inserted-chunks a (n ∷ []) d = grown-chunks n [] d
inserted-chunks a (n ∷ m ∷ ms) d = at (inserted-chunks (a - n) (m ∷ ms) d.3) (nat_lt n a)
  where
    at : AreChunks (inserted_at (a - n) (m ∷ ms)) → (b : Bool) → AreChunks (if b then n ∷ inserted_at (a - n) (m ∷ ms) else grown n (m ∷ ms))
    at rest true = (d.0, d.1, inserted-apart n (a - n) m ms d.2 d.0, rest)
    at rest false = grown-chunks n (m ∷ ms) d

inserted-total : (a : ℕ) (ns : List ℕ) → AreChunks ns → total (inserted_at a ns) ≡ total ns + 1
inserted-total a [] d = refl
inserted-total a (n ∷ []) d = grown-total n [] d.1
inserted-total a (n ∷ m ∷ ms) d = at (inserted-total (a - n) (m ∷ ms) d.3) (nat_lt n a)
  where
    at : total (inserted_at (a - n) (m ∷ ms)) ≡ total (m ∷ ms) + 1 → (b : Bool) → total (if b then n ∷ inserted_at (a - n) (m ∷ ms) else grown n (m ∷ ms)) ≡ n + (m + total ms) + 1
    at rest true = omega (arith, rest)
    at rest false = grown-total n (m ∷ ms) d.1

-- chunks behind the next one stay
pub joined-stay : (n m : ℕ) (ms : List ℕ) → (mid : List ℕ) × (joined n (m ∷ ms) ≡ mid ++ ms)
joined-stay n m ms = at (nat_lt full (n + m))
  where
    at : (b : Bool) → (mid : List ℕ) × ((if b then n ∷ m ∷ ms else (n + m) ∷ ms) ≡ mid ++ ms)
    at true = (n ∷ m ∷ [], refl)
    at false = ((n + m) ∷ [], refl)

grown-stay : (n : ℕ) (ns : List ℕ) → StayAround 0 0 (n ∷ ns) (grown n ns)
grown-stay n [] = at (nat_lt n full)
  where
    at : (b : Bool) → StayAround 0 0 (n ∷ []) (if b then (n + 1) ∷ [] else full ∷ joined 1 [])
    at true = ((n + 1) ∷ [], refl)
    at false = (full ∷ 1 ∷ [], refl)
grown-stay n (m ∷ ms) = at (nat_lt n full)
  where
    at : (b : Bool) → StayAround 0 0 (n ∷ m ∷ ms) (if b then (n + 1) ∷ m ∷ ms else full ∷ joined 1 (m ∷ ms))
    at true = ((n + 1) ∷ m ∷ [], refl)
    at false = let rest = joined-stay 1 m ms in (full ∷ rest.0, ap (λ xs. full ∷ xs) rest.1)

-- all chunks stay but the one with the line and the one behind it
pub inserted-stay : (a : ℕ) (ns : List ℕ) → StayAround (chunk_of a ns) (chunk_of a ns) ns (inserted_at a ns)
inserted-stay a [] = (1 ∷ [], refl)
inserted-stay a (n ∷ []) = grown-stay n []
inserted-stay a (n ∷ m ∷ ms) = at (inserted-stay (a - n) (m ∷ ms)) (nat_lt n a)
  where
    at : StayAround (chunk_of (a - n) (m ∷ ms)) (chunk_of (a - n) (m ∷ ms)) (m ∷ ms) (inserted_at (a - n) (m ∷ ms)) → (b : Bool)
        → StayAround (if b then suc (chunk_of (a - n) (m ∷ ms)) else 0) (if b then suc (chunk_of (a - n) (m ∷ ms)) else 0) (n ∷ m ∷ ms) (if b then n ∷ inserted_at (a - n) (m ∷ ms) else grown n (m ∷ ms))
    at rest true = deeper (chunk_of (a - n) (m ∷ ms)) rest
      where
        deeper : (k : ℕ) → StayAround k k (m ∷ ms) (inserted_at (a - n) (m ∷ ms)) → StayAround (suc k) (suc k) (n ∷ m ∷ ms) (n ∷ inserted_at (a - n) (m ∷ ms))
        deeper k r = (r.0, ap (λ xs. n ∷ xs) r.1)
    at rest false = grown-stay n (m ∷ ms)

-- what is left of a cut
without-chunks : (c : ℕ) (ns : List ℕ) → AreChunks ns → AreChunks (without c ns)
without-chunks c [] d = tt
without-chunks c (n ∷ ns) d = at (without-chunks (c - n) ns d.3) (nat_lt c n)
  where
    at : AreChunks (without (c - n) ns) → (b : Bool) → AreChunks (if b then joined (n - c) ns else without (c - n) ns)
    at rest true = joined-chunks (n - c) ns (omega (arith, d.1)) d.3
    at rest false = rest

cut_in-chunks : (n keep count : ℕ) (ns : List ℕ) → keep < n → n ≤ full → AreChunks ns → AreChunks (cut_in n keep count ns)
cut_in-chunks n keep count ns lt le d = at (nat_lt (n - keep) count)
  where
    at : (b : Bool) → AreChunks (if b then joined keep (without (count - (n - keep)) ns) else joined keep (joined (n - keep - count) ns))
    at true = joined-chunks keep (without (count - (n - keep)) ns) (omega (arith, lt, le)) (without-chunks (count - (n - keep)) ns d)
    at false = joined-chunks keep (joined (n - keep - count) ns) (omega (arith, lt, le)) (joined-chunks (n - keep - count) ns (omega (arith, le)) d)

pub deleted-chunks : (keep count : ℕ) (ns : List ℕ) → AreChunks ns → AreChunks (deleted_at keep count ns)
deleted-chunks keep count [] d = tt
deleted-chunks keep count (n ∷ ns) d = at (deleted-chunks (keep - n) count ns d.3) (nat_lt keep n) refl
  where
    at : AreChunks (deleted_at (keep - n) count ns) → (b : Bool) → nat_lt keep n ≡ b → AreChunks (if b then cut_in n keep count ns else joined n (deleted_at (keep - n) count ns))
    at rest true e = cut_in-chunks n keep count ns (lt-true keep n e) d.1 d.3
    at rest false e = joined-chunks n (deleted_at (keep - n) count ns) d.1 rest

without-total : (c : ℕ) (ns : List ℕ) → total (without c ns) ≡ total ns - c
without-total c [] = omega arith
without-total c (n ∷ ns) = at (without-total (c - n) ns) (nat_lt c n) refl
  where
    at : total (without (c - n) ns) ≡ total ns - (c - n) → (b : Bool) → nat_lt c n ≡ b → total (if b then joined (n - c) ns else without (c - n) ns) ≡ n + total ns - c
    at rest true e = omega (arith, joined-total (n - c) ns, lt-true c n e)
    at rest false e = omega (arith, rest, lt-false c n e)

cut_in-total : (n keep count : ℕ) (ns : List ℕ) → keep < n → keep + count ≤ n + total ns → total (cut_in n keep count ns) ≡ n + total ns - count
cut_in-total n keep count ns lt le = at (nat_lt (n - keep) count) refl
  where
    at : (b : Bool) → nat_lt (n - keep) count ≡ b → total (if b then joined keep (without (count - (n - keep)) ns) else joined keep (joined (n - keep - count) ns)) ≡ n + total ns - count
    at true e = omega (arith, joined-total keep (without (count - (n - keep)) ns), without-total (count - (n - keep)) ns, lt-true (n - keep) count e, lt, le)
    at false e = omega (arith, joined-total keep (joined (n - keep - count) ns), joined-total (n - keep - count) ns, lt-false (n - keep) count e, lt, le)

deleted-total : (keep count : ℕ) (ns : List ℕ) → keep + count ≤ total ns → total (deleted_at keep count ns) ≡ total ns - count
deleted-total keep count [] le = omega arith
deleted-total keep count (n ∷ ns) le = at (deleted-total (keep - n) count ns) (nat_lt keep n) refl
  where
    at : (keep - n + count ≤ total ns → total (deleted_at (keep - n) count ns) ≡ total ns - count) → (b : Bool) → nat_lt keep n ≡ b → total (if b then cut_in n keep count ns else joined n (deleted_at (keep - n) count ns)) ≡ n + total ns - count
    at rest true e = cut_in-total n keep count ns (lt-true keep n e) le
    at rest false e = omega (arith, joined-total n (deleted_at (keep - n) count ns), rest (omega (arith, lt-false keep n e, le)), lt-false keep n e, le)

-- a chunk before one that only grew stays
pub joined-again : (n m : ℕ) (ns : List ℕ) → full < n + m → 1 ≤ m → joined n (joined m ns) ≡ n ∷ joined m ns
joined-again n m [] h one = at (nat_lt 0 m) refl
  where
    at : (b : Bool) → nat_lt 0 m ≡ b → joined n (if b then m ∷ [] else []) ≡ n ∷ (if b then m ∷ [] else [])
    at true e = ap (λ b. if b then n ∷ m ∷ [] else (n + m) ∷ []) (lt-ltb full (n + m) h)
    at false e = absurd (omega (arith, lt-false 0 m e, one))
joined-again n m (k ∷ ks) h one = at (nat_lt full (m + k))
  where
    at : (b : Bool) → joined n (if b then m ∷ k ∷ ks else (m + k) ∷ ks) ≡ n ∷ (if b then m ∷ k ∷ ks else (m + k) ∷ ks)
    at true = ap (λ b. if b then n ∷ m ∷ k ∷ ks else (n + m) ∷ k ∷ ks) (lt-ltb full (n + m) h)
    at false = ap (λ b. if b then n ∷ (m + k) ∷ ks else (n + (m + k)) ∷ ks) (lt-ltb full (n + (m + k)) (omega (arith, h)))

pub inserted-sum : (a : ℕ) (ns : List ℕ) → AreChunks ns → sum (inserted_at a ns) ≡ sum ns + 1
inserted-sum a ns d = sym (total-sum (inserted_at a ns)) ∙ inserted-total a ns d ∙ ap (λ k. k + 1) (total-sum ns)

pub deleted-sum : (keep count : ℕ) (ns : List ℕ) → keep + count ≤ sum ns → sum (deleted_at keep count ns) ≡ sum ns - count
deleted-sum keep count ns le =
    let same = total-sum ns in
    sym (total-sum (deleted_at keep count ns)) ∙ deleted-total keep count ns (omega (arith, le, same)) ∙ ap (λ k. k - count) same
