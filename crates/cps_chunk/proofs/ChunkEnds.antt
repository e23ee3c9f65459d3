-- Chunks in front of an edit and behind it: where a list of lengths ends as another does.
use Rattle.std.proofs.Common.{◌≡◌, ℕ, zero, suc, ◌+◌, ◌-◌, ◌<◌, ◌≤◌, refl, sym, ap, subst, ◌∙◌, List, [], ◌∷◌, ◌++◌, get_or, take, drop, length, true, false, Bool, arith}
use Rattle.std.specs.Prelude.{if◌then◌else◌, nat_lt, sum}
use Rattle.std.proofs.lemmas.Bool.{ltb-true, ltb-false}
use Rattle.std.proofs.lemmas.List.{drop-drop, drop_all}
use Rattle.std.proofs.lemmas.List.Sums.{sum_by-cons}
use Rattle.cps_chunk.specs.Division.{full, IsApart, AreChunks, joined, grown, inserted_at, without, cut_in, deleted_at}
use Rattle.cps_chunk.proofs.StayingLemmas.{AreSome}

-- ---- sums and tests

-- the sum from the end on, which computes by the first length
abbrev pub total : List ℕ → ℕ
total [] = 0
total (n ∷ ns) = n + total ns

pub total-sum : (ns : List ℕ) → total ns ≡ sum ns
total-sum [] = refl
total-sum (n ∷ ns) = ap (λ k. n + k) (total-sum ns) ∙ sym (sum_by-cons (λ x. x) n ns)

pub total-append : (ns ms : List ℕ) → total (ns ++ ms) ≡ total ns + total ms
total-append [] ms = omega arith
total-append (n ∷ ns) ms = omega (arith, total-append ns ms)

pub lt-true : (a b : ℕ) → nat_lt a b ≡ true → a < b
lt-true a b h = ltb-true a b h

pub lt-false : (a b : ℕ) → nat_lt a b ≡ false → b ≤ a
lt-false a b h = ltb-false a b h

joined-total : (n : ℕ) (ns : List ℕ) → total (joined n ns) ≡ n + total ns
joined-total n [] = by (nat_lt 0 n) refl
  where
    by : (b : Bool) → nat_lt 0 n ≡ b → total (if b then n ∷ [] else []) ≡ n + 0
    by true e = refl
    by false e = omega (arith, lt-false 0 n e)
joined-total n (m ∷ ms) = by (nat_lt full (n + m))
  where
    by : (b : Bool) → total (if b then n ∷ m ∷ ms else (n + m) ∷ ms) ≡ n + (m + total ms)
    by true = refl
    by false = omega arith

-- ---- ends of a list

pub total-drop : (i : ℕ) (ns : List ℕ) → total (drop i ns) ≤ total ns
total-drop zero ns = omega arith
total-drop (suc i) [] = omega arith
total-drop (suc i) (n ∷ ns) = omega (arith, total-drop i ns)

-- ends with as many lines are the same
pub same-ends : (i j : ℕ) (ns : List ℕ) → AreSome ns → total (drop i ns) ≡ total (drop j ns) → drop i ns ≡ drop j ns
same-ends zero zero ns some e = refl
same-ends (suc i) zero [] some e = refl
same-ends (suc i) zero (n ∷ ns) some e = absurd (omega (arith, total-drop i ns, some.0, e))
same-ends zero (suc j) [] some e = refl
same-ends zero (suc j) (n ∷ ns) some e = absurd (omega (arith, total-drop j ns, some.0, e))
same-ends (suc i) (suc j) [] some e = refl
same-ends (suc i) (suc j) (n ∷ ns) some e = same-ends i j ns some.1 e

abbrev pub IsEnd : List ℕ → List ℕ → Type 0
IsEnd qs ns = (i : ℕ) × (qs ≡ drop i ns)

pub ends-meet : (qs rs ns : List ℕ) → AreSome ns → IsEnd qs ns → IsEnd rs ns → total qs ≡ total rs → qs ≡ rs
ends-meet qs rs ns some a b e = a.1 ∙ same-ends a.0 b.0 ns some (ap total (sym a.1) ∙ e ∙ ap total b.1) ∙ sym b.1

pub end-next : (x : ℕ) (qs ns : List ℕ) (i : ℕ) → drop i ns ≡ x ∷ qs → IsEnd qs ns
end-next x qs ns i is =
    let one : i + 1 ≡ suc i = omega arith in
    (suc i, ap (drop 1) (sym is) ∙ drop-drop 1 i ns ∙ ap (λ k. drop k ns) one)

pub end-of-end : (qs rs ns : List ℕ) → IsEnd qs rs → IsEnd rs ns → IsEnd qs ns
end-of-end qs rs ns a b = (b.0 + a.0, a.1 ∙ ap (drop a.0) b.1 ∙ drop-drop a.0 b.0 ns)

end-more : (n : ℕ) (qs ns : List ℕ) → IsEnd qs ns → IsEnd qs (n ∷ ns)
end-more n qs ns a = (suc a.0, a.1)

-- ---- fronts

pub same-fronts : (i j : ℕ) (ns : List ℕ) → AreSome ns → i ≤ length ns → j ≤ length ns → total (take i ns) ≡ total (take j ns) → i ≡ j
same-fronts zero zero ns some a b e = refl
same-fronts (suc i) zero [] some a b e = absurd (omega (arith, a))
same-fronts (suc i) zero (n ∷ ns) some a b e = absurd (omega (arith, some.0, e))
same-fronts zero (suc j) [] some a b e = absurd (omega (arith, b))
same-fronts zero (suc j) (n ∷ ns) some a b e = absurd (omega (arith, some.0, e))
same-fronts (suc i) (suc j) [] some a b e = absurd (omega (arith, a))
same-fronts (suc i) (suc j) (n ∷ ns) some a b e = ap suc (same-fronts i j ns some.1 (omega (arith, a)) (omega (arith, b)) (omega (arith, e)))

-- the chunks that end in front of a line are the same
abbrev pub KeepsFront : ℕ → List ℕ → List ℕ → Type 0
KeepsFront keep olds news = (j : ℕ) → total (take j news) < keep → take j news ≡ take j olds

-- behind a line, where chunks end as before, the same ones follow
abbrev pub MeetsBehind : ℕ → List ℕ → List ℕ → Type 0
MeetsBehind behind olds news = (j i x y : ℕ) (qs rs : List ℕ) → drop j news ≡ x ∷ qs → drop i olds ≡ y ∷ rs → x + total qs ≤ behind → total qs ≡ total rs → qs ≡ rs

pub front-less : (keep more : ℕ) (olds news : List ℕ) → keep ≤ more → KeepsFront more olds news → KeepsFront keep olds news
front-less keep more olds news le f j lt = f j (omega (arith, le, lt))

-- ---- an insertion

grown-front : (a n j : ℕ) (ns : List ℕ) → a ≤ n → n ≤ full → total (take j (grown n ns)) < a → take j (grown n ns) ≡ take j (n ∷ ns)
grown-front a n zero ns le most lt = refl
grown-front a n (suc j) ns le most lt = by (nat_lt n full) lt
  where
    by : (b : Bool) → total (take (suc j) (if b then (n + 1) ∷ ns else full ∷ joined 1 ns)) < a → take (suc j) (if b then (n + 1) ∷ ns else full ∷ joined 1 ns) ≡ take (suc j) (n ∷ ns)
    by true less = absurd (omega (arith, less, le))
    by false less = absurd (omega (arith, less, le, most))

pub inserted-front : (a : ℕ) (ns : List ℕ) → AreChunks ns → a ≤ total ns → KeepsFront a ns (inserted_at a ns)
inserted-front a [] d le zero lt = refl
inserted-front a [] d le (suc j) lt = absurd (omega (arith, lt, le))
inserted-front a (n ∷ []) d le j lt = grown-front a n j [] (omega (arith, le)) d.1 lt
inserted-front a (n ∷ m ∷ ms) d le j lt = by (inserted-front (a - n) (m ∷ ms) d.3 (omega (arith, le))) (nat_lt n a) refl j lt
  where
    by : KeepsFront (a - n) (m ∷ ms) (inserted_at (a - n) (m ∷ ms)) → (b : Bool) → nat_lt n a ≡ b → (k : ℕ)
        → total (take k (if b then n ∷ inserted_at (a - n) (m ∷ ms) else grown n (m ∷ ms))) < a
        → take k (if b then n ∷ inserted_at (a - n) (m ∷ ms) else grown n (m ∷ ms)) ≡ take k (n ∷ m ∷ ms)
    by rest true e zero less = refl
    by rest true e (suc k) less = ap (λ xs. n ∷ xs) (rest k (omega (arith, less, lt-true n a e)))
    by rest false e k less = grown-front a n k (m ∷ ms) (lt-false n a e) d.1 less

-- ---- a deletion

without-total : (c : ℕ) (ns : List ℕ) → total (without c ns) ≡ total ns - c
without-total c [] = omega arith
without-total c (n ∷ ns) = by (without-total (c - n) ns) (nat_lt c n) refl
  where
    by : total (without (c - n) ns) ≡ total ns - (c - n) → (b : Bool) → nat_lt c n ≡ b → total (if b then joined (n - c) ns else without (c - n) ns) ≡ n + total ns - c
    by rest true e = omega (arith, joined-total (n - c) ns, lt-true c n e)
    by rest false e = omega (arith, rest, lt-false c n e)

cut_in-total : (n keep gone : ℕ) (ns : List ℕ) → keep < n → keep + gone ≤ n + total ns → total (cut_in n keep gone ns) ≡ n + total ns - gone
cut_in-total n keep gone ns lt le = by (nat_lt (n - keep) gone) refl
  where
    by : (b : Bool) → nat_lt (n - keep) gone ≡ b
        → total (if b then joined keep (without (gone - (n - keep)) ns) else joined keep (joined (n - keep - gone) ns)) ≡ n + total ns - gone
    by true e = omega (arith, joined-total keep (without (gone - (n - keep)) ns), without-total (gone - (n - keep)) ns, lt-true (n - keep) gone e, lt, le)
    by false e = omega (arith, joined-total keep (joined (n - keep - gone) ns), joined-total (n - keep - gone) ns, lt-false (n - keep) gone e, lt, le)

deleted-total : (keep gone : ℕ) (ns : List ℕ) → keep + gone ≤ total ns → total (deleted_at keep gone ns) ≡ total ns - gone
deleted-total keep gone [] le = omega arith
deleted-total keep gone (n ∷ ns) le = by (deleted-total (keep - n) gone ns) (nat_lt keep n) refl
  where
    by : (keep - n + gone ≤ total ns → total (deleted_at (keep - n) gone ns) ≡ total ns - gone) → (b : Bool) → nat_lt keep n ≡ b
        → total (if b then cut_in n keep gone ns else joined n (deleted_at (keep - n) gone ns)) ≡ n + total ns - gone
    by rest true e = cut_in-total n keep gone ns (lt-true keep n e) le
    by rest false e =
        let lt = lt-false keep n e in
        omega (arith, joined-total n (deleted_at (keep - n) gone ns), rest (omega (arith, lt, le)), lt, le)

joined-first : (k j : ℕ) (ns : List ℕ) → k ≤ total (take (suc j) (joined k ns))
joined-first k j [] = by (nat_lt 0 k) refl
  where
    by : (b : Bool) → nat_lt 0 k ≡ b → k ≤ total (take (suc j) (if b then k ∷ [] else []))
    by true e = omega arith
    by false e = omega (arith, lt-false 0 k e)
joined-first k j (m ∷ ms) = by (nat_lt full (k + m))
  where
    by : (b : Bool) → k ≤ total (take (suc j) (if b then k ∷ m ∷ ms else (k + m) ∷ ms))
    by true = omega arith
    by false = omega arith

-- a chunk before chunks that stay in front
before-front : (keep n : ℕ) (ns news : List ℕ) → IsApart n ns → n ≤ keep → keep - n ≤ total news → KeepsFront (keep - n) ns news → KeepsFront keep (n ∷ ns) (joined n news)
before-front keep n ns news apart le all f zero lt = refl
before-front keep n ns [] apart le all f (suc j) lt = absurd (omega (arith, joined-first n j [], lt, le, all))
before-front keep n ns (m ∷ ms) apart le all f (suc j) lt = by (nat_lt full (n + m)) refl lt
  where
    one-apart : (ks : List ℕ) → IsApart n ks → m ∷ [] ≡ take 1 ks → full < n + m
    one-apart [] h is = absurd (omega (arith, ap length is))
    one-apart (k ∷ ks) h is = omega (arith, h, ap (λ xs. get_or xs 0 0) is)

    by : (b : Bool) → nat_lt full (n + m) ≡ b → total (take (suc j) (if b then n ∷ m ∷ ms else (n + m) ∷ ms)) < keep
        → take (suc j) (if b then n ∷ m ∷ ms else (n + m) ∷ ms) ≡ take (suc j) (n ∷ ns)
    by true e less = ap (λ xs. n ∷ xs) (f j (omega (arith, less, le)))
    by false e less = absurd (omega (arith, lt-false full (n + m) e, one-apart ns apart (f 1 (omega (arith, less, le)))))

pub deleted-front : (keep gone : ℕ) (ns : List ℕ) → AreChunks ns → keep + gone ≤ total ns → KeepsFront keep ns (deleted_at keep gone ns)
deleted-front keep gone [] d le j lt = refl
deleted-front keep gone (n ∷ ns) d le j lt = by (deleted-front (keep - n) gone ns d.3) (nat_lt keep n) refl j lt
  where
    first : (c : Bool) (k : ℕ) → total (take k (if c then joined keep (without (gone - (n - keep)) ns) else joined keep (joined (n - keep - gone) ns))) < keep
        → take k (if c then joined keep (without (gone - (n - keep)) ns) else joined keep (joined (n - keep - gone) ns)) ≡ take k (n ∷ ns)
    first true zero less = refl
    first false zero less = refl
    first true (suc k) less = absurd (omega (arith, joined-first keep k (without (gone - (n - keep)) ns), less))
    first false (suc k) less = absurd (omega (arith, joined-first keep k (joined (n - keep - gone) ns), less))

    by : (keep - n + gone ≤ total ns → KeepsFront (keep - n) ns (deleted_at (keep - n) gone ns)) → (b : Bool) → nat_lt keep n ≡ b
        → KeepsFront keep (n ∷ ns) (if b then cut_in n keep gone ns else joined n (deleted_at (keep - n) gone ns))
    by rest true e = first (nat_lt (n - keep) gone)
    by rest false e =
        let past = lt-false keep n e in
        let left : keep - n + gone ≤ total ns = omega (arith, past, le) in
        before-front keep n ns (deleted_at (keep - n) gone ns) d.2 past
        (omega (arith, deleted-total (keep - n) gone ns left, left)) (rest left)

-- chunks that begin behind so many lines of the end are chunks of the old end
abbrev pub EndsSo : ℕ → List ℕ → List ℕ → Type 0
EndsSo behind olds news = (j : ℕ) → total (drop j news) < behind → IsEnd (drop j news) olds

joined-end : (behind n : ℕ) (olds news : List ℕ) → behind ≤ n + total news → EndsSo behind olds news → EndsSo behind olds (joined n news)
joined-end behind n olds [] le f = by (nat_lt 0 n)
  where
    none : (j : ℕ) → drop j [] ≡ drop (length olds) olds
    none j = drop_all j [] (omega arith) ∙ sym (drop_all (length olds) olds (omega arith))

    by : (b : Bool) → EndsSo behind olds (if b then n ∷ [] else [])
    by true zero lt = absurd (omega (arith, lt, le))
    by true (suc j) lt = (length olds, none j)
    by false j lt = (length olds, none j)
joined-end behind n olds (m ∷ ms) le f = by (nat_lt full (n + m))
  where
    by : (b : Bool) → EndsSo behind olds (if b then n ∷ m ∷ ms else (n + m) ∷ ms)
    by true zero lt = absurd (omega (arith, lt, le))
    by true (suc j) lt = f j lt
    by false zero lt = absurd (omega (arith, lt, le))
    by false (suc j) lt = f (suc j) lt

whole-end : (behind n : ℕ) (ns : List ℕ) → EndsSo behind (n ∷ ns) ns
whole-end behind n ns j lt = (suc j, refl)

more-end : (behind n : ℕ) (ns news : List ℕ) → EndsSo behind ns news → EndsSo behind (n ∷ ns) news
more-end behind n ns news f j lt = end-more n (drop j news) ns (f j lt)

without-end : (c : ℕ) (ns : List ℕ) → EndsSo (total ns - c) ns (without c ns)
without-end c [] j lt = absurd (omega (arith, lt))
without-end c (n ∷ ns) j lt = by (nat_lt c n) refl (without-end (c - n) ns) j lt
  where
    by : (b : Bool) → nat_lt c n ≡ b → EndsSo (total ns - (c - n)) ns (without (c - n) ns) → EndsSo (n + total ns - c) (n ∷ ns) (if b then joined (n - c) ns else without (c - n) ns)
    by true e rest = joined-end (n + total ns - c) (n - c) (n ∷ ns) ns (omega (arith, lt-true c n e)) (whole-end (n + total ns - c) n ns)
    by false e rest = λ k less. end-more n (drop k (without (c - n) ns)) ns (rest k (omega (arith, less, lt-false c n e)))

pub deleted-end : (keep gone : ℕ) (ns : List ℕ) → keep + gone ≤ total ns → EndsSo (total ns - (keep + gone)) ns (deleted_at keep gone ns)
deleted-end keep gone [] le j lt = absurd (omega (arith, lt))
deleted-end keep gone (n ∷ ns) le j lt = by (deleted-end (keep - n) gone ns) (nat_lt keep n) refl j lt
  where
    behind : ℕ
    behind = n + total ns - (keep + gone)

    first : keep < n → (c : Bool) → nat_lt (n - keep) gone ≡ c
        → EndsSo behind (n ∷ ns) (if c then joined keep (without (gone - (n - keep)) ns) else joined keep (joined (n - keep - gone) ns))
    first here true e =
        let more = lt-true (n - keep) gone e in
        let same : total ns - (gone - (n - keep)) ≡ behind = omega (arith, here, more) in
        let rest = without (gone - (n - keep)) ns in
        joined-end behind keep (n ∷ ns) rest (omega (arith, without-total (gone - (n - keep)) ns, same))
        (subst (λ b. EndsSo b (n ∷ ns) rest) same (more-end (total ns - (gone - (n - keep))) n ns rest (without-end (gone - (n - keep)) ns)))
    first here false e =
        let few = lt-false (n - keep) gone e in
        let rest = joined (n - keep - gone) ns in
        joined-end behind keep (n ∷ ns) rest (omega (arith, joined-total (n - keep - gone) ns, here, few))
        (joined-end behind (n - keep - gone) (n ∷ ns) ns (omega (arith, here, few)) (whole-end behind n ns))

    by : (keep - n + gone ≤ total ns → EndsSo (total ns - (keep - n + gone)) ns (deleted_at (keep - n) gone ns)) → (b : Bool) → nat_lt keep n ≡ b
        → EndsSo behind (n ∷ ns) (if b then cut_in n keep gone ns else joined n (deleted_at (keep - n) gone ns))
    by shorter true e = first (lt-true keep n e) (nat_lt (n - keep) gone) refl
    by shorter false e =
        let past = lt-false keep n e in
        let left : keep - n + gone ≤ total ns = omega (arith, past, le) in
        let same : total ns - (keep - n + gone) ≡ behind = omega (arith, past) in
        let rest = deleted_at (keep - n) gone ns in
        joined-end behind n (n ∷ ns) rest (omega (arith, deleted-total (keep - n) gone ns left, past, le))
        (subst (λ b. EndsSo b (n ∷ ns) rest) same (more-end (total ns - (keep - n + gone)) n ns rest (shorter left)))

pub ends-meet-behind : (behind : ℕ) (olds news : List ℕ) → AreSome olds → AreSome news → EndsSo behind olds news → MeetsBehind behind olds news
ends-meet-behind behind olds news some more f j i x y qs rs here there le same =
    let one : j + 1 ≡ suc j = omega arith in
    let next : drop (suc j) news ≡ qs = sym (drop-drop 1 j news ∙ ap (λ k. drop k news) one) ∙ ap (drop 1) here in
    let first : 1 ≤ x = first-some j news more here in
    let end = f (suc j) (omega (arith, ap total next, le, first)) in
    ends-meet qs rs olds some (end.0, sym next ∙ end.1) (end-next y rs olds i there) same
  where
    first-some : (j : ℕ) (ns : List ℕ) → AreSome ns → drop j ns ≡ x ∷ qs → 1 ≤ x
    first-some zero [] some is = absurd (omega (arith, ap length is))
    first-some zero (n ∷ ns) some is = omega (arith, some.0, ap (λ xs. get_or xs 0 0) is)
    first-some (suc j) [] some is = absurd (omega (arith, ap length is))
    first-some (suc j) (n ∷ ns) some is = first-some j ns some.1 is
