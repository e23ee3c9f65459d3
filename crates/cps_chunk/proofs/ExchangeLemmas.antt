-- The lengths of chunks after two runs of lines have changed places.
use Rattle.std.proofs.Common.{◌≡◌, inl, inr, ℕ, zero, suc, ◌+◌, ◌-◌, ◌≤◌, refl, sym, ap, subst, ◌∙◌, List, [], ◌∷◌, ◌++◌, append-nil, length, take, drop, true, false, Bool, arith}
use Rattle.std.specs.Prelude.{if◌then◌else◌, nat_lt}
use Rattle.cps_chunk.specs.Division.{full, IsApart, AreChunks, IsDivision, joined}
use Rattle.cps_edit.specs.Exchange.{exchange_at}
use Rattle.cps_chunk.specs.Exchange.{front_of, behind_of, part_of, rejoined, exchanged_at, whole, begun, inner}
use Rattle.cps_chunk.proofs.DivisionLemmas.{total, total-sum, lt-true, lt-false, joined-chunks, joined-total, joined-again}
use Rattle.cps_chunk.proofs.DeletionLemmas.{EndsWith, joined-ends, joined-apart-same}

-- ---- they divide as many lines

abbrev AreShort : List ℕ → Type 0
AreShort [] = Unit {0}
AreShort (n ∷ ns) = (n ≤ full) × AreShort ns

chunks-short : (ns : List ℕ) → AreChunks ns → AreShort ns
chunks-short [] d = tt
chunks-short (n ∷ ns) d = (d.1, chunks-short ns d.3)

front-short : (k : ℕ) (ns : List ℕ) → AreShort ns → AreShort (front_of k ns)
front-short k [] s = tt
front-short k (n ∷ ns) s = at (front-short (k - n) ns s.1) (nat_lt k n) refl (nat_lt 0 k)
  where
    at : AreShort (front_of (k - n) ns) → (less : Bool) → nat_lt k n ≡ less → (some : Bool) → AreShort (if less then (if some then k ∷ [] else []) else n ∷ front_of (k - n) ns)
    at rest true e true = (omega (arith, lt-true k n e, s.0), tt)
    at rest true e false = tt
    at rest false e some = (s.0, rest)

behind-short : (k : ℕ) (ns : List ℕ) → AreShort ns → AreShort (behind_of k ns)
behind-short k [] s = tt
behind-short k (n ∷ ns) s = at (behind-short (k - n) ns s.1) (nat_lt k n)
  where
    at : AreShort (behind_of (k - n) ns) → (less : Bool) → AreShort (if less then (n - k) ∷ ns else behind_of (k - n) ns)
    at rest true = (omega (arith, s.0), s.1)
    at rest false = rest

rejoined-chunks : (ps ns : List ℕ) → AreShort ps → AreChunks ns → AreChunks (rejoined ps ns)
rejoined-chunks [] ns s d = d
rejoined-chunks (p ∷ ps) ns s d = joined-chunks p (rejoined ps ns) s.0 (rejoined-chunks ps ns s.1 d)

rejoined-total : (ps ns : List ℕ) → total (rejoined ps ns) ≡ total ps + total ns
rejoined-total [] ns = omega arith
rejoined-total (p ∷ ps) ns = omega (arith, joined-total p (rejoined ps ns), rejoined-total ps ns)

front-total : (k : ℕ) (ns : List ℕ) → k ≤ total ns → total (front_of k ns) ≡ k
front-total k [] le = omega (arith, le)
front-total k (n ∷ ns) le = at (front-total (k - n) ns (omega (arith, le))) (nat_lt k n) refl (nat_lt 0 k) refl
  where
    at : total (front_of (k - n) ns) ≡ k - n → (less : Bool) → nat_lt k n ≡ less → (some : Bool) → nat_lt 0 k ≡ some
        → total (if less then (if some then k ∷ [] else []) else n ∷ front_of (k - n) ns) ≡ k
    at rest true e true f = omega arith
    at rest true e false f = omega (arith, lt-false 0 k f)
    at rest false e some f = omega (arith, lt-false k n e, rest)

behind-total : (k : ℕ) (ns : List ℕ) → total (behind_of k ns) ≡ total ns - k
behind-total k [] = omega arith
behind-total k (n ∷ ns) = at (behind-total (k - n) ns) (nat_lt k n) refl
  where
    at : total (behind_of (k - n) ns) ≡ total ns - (k - n) → (less : Bool) → nat_lt k n ≡ less → total (if less then (n - k) ∷ ns else behind_of (k - n) ns) ≡ n + total ns - k
    at rest true e = omega (arith, lt-true k n e)
    at rest false e = omega (arith, lt-false k n e, rest)

part-total : (a b : ℕ) (ns : List ℕ) → b ≤ total ns → total (part_of a b ns) ≡ b - a
part-total a b ns le = omega (arith, behind-total a (front_of b ns), front-total b ns le)

pub exchanged-divides : (keep mid from count : ℕ) (ns : List ℕ) → IsDivision count ns → keep ≤ mid → mid ≤ from → from ≤ count → IsDivision count (exchanged_at (exchange_at keep mid from) ns)
exchanged-divides keep mid from count ns division first second all =
    let short = chunks-short ns division.chunks in
    let count-is : total ns ≡ count = total-sum ns ∙ division.total in
    let behind = behind_of from ns in
    let one = part_of keep mid ns in
    let two = part_of mid from ns in
    let a = rejoined behind [] in
    let b = rejoined one a in
    let c = rejoined two b in
    let none : total [] ≡ 0 = refl in
    let lines : total (exchanged_at (exchange_at keep mid from) ns) ≡ count =
    omega (
      arith,
      rejoined-total (front_of keep ns) c,
      rejoined-total two b,
      rejoined-total one a,
      rejoined-total behind [],
      none,
      count-is,
      first,
      second,
      all,
      front-total keep ns (omega (arith, count-is, first, second, all)),
      part-total mid from ns (omega (arith, count-is, all)),
      part-total keep mid ns (omega (arith, count-is, second, all)),
      behind-total from ns,
    ) in
    record {
      chunks =
          rejoined-chunks (front_of keep ns) c (front-short keep ns short)
          (rejoined-chunks two b (behind-short mid (front_of from ns) (front-short from ns short))
          (rejoined-chunks one a (behind-short keep (front_of mid ns) (front-short mid ns short))
          (rejoined-chunks behind [] (behind-short from ns short) tt)));
      total = sym (total-sum (exchanged_at (exchange_at keep mid from) ns)) ∙ lines;
    }

-- ---- pieces of runs

pub rejoined-append : (ps qs ns : List ℕ) → rejoined (ps ++ qs) ns ≡ rejoined ps (rejoined qs ns)
rejoined-append [] qs ns = refl
rejoined-append (p ∷ ps) qs ns = ap (joined p) (rejoined-append ps qs ns)

rejoined-ends : (ps last ns : List ℕ) → EndsWith last ns → EndsWith last (rejoined ps ns)
rejoined-ends [] last ns e = e
rejoined-ends (p ∷ ps) last ns e = joined-ends p last (rejoined ps ns) (rejoined-ends ps last ns e)

-- chunks that are set before others: the last alone can change
all-but-last : (n : ℕ) (ns rest : List ℕ) → AreChunks (n ∷ ns) → (last : ℕ) × (rejoined (n ∷ ns) rest ≡ take (length ns) (n ∷ ns) ++ joined last rest)
all-but-last n [] rest d = (n, refl)
all-but-last n (m ∷ ms) rest d =
    let more = all-but-last m ms rest d.3 in
    (more.0, joined-again n m (rejoined ms rest) d.2 d.3.0 ∙ ap (λ xs. n ∷ xs) more.1)

ends-list : (last ns : List ℕ) → EndsWith last ns → (some : List ℕ) × (ns ≡ some ++ last)
ends-list last ns (inl none) = ([], none.0 ∙ sym none.1)
ends-list last ns (inr some) = (some.0 ∷ some.1, some.2)

-- so of chunks in front of pieces all stay but the last
front-stays : (chunks piece rest last : List ℕ) → AreChunks chunks → EndsWith last rest → (some : List ℕ) × (rejoined (chunks ++ piece) rest ≡ take (length chunks - 1) chunks ++ (some ++ last))
front-stays [] piece rest last d e =
    let list = ends-list last (rejoined piece rest) (rejoined-ends piece last rest e) in
    (list.0, list.1 ∙ none)
  where
    none : {xs : List ℕ} → xs ≡ take (0 - 1) [] ++ xs
    none = refl
front-stays (n ∷ ns) piece rest last d e =
    let x = rejoined piece rest in
    let but = all-but-last n ns x d in
    let list = ends-list last (joined but.0 x) (joined-ends but.0 last x (rejoined-ends piece last rest e)) in
    let count : length ns ≡ suc (length ns) - 1 = omega arith in
    (list.0, rejoined-append (n ∷ ns) piece rest ∙ but.1 ∙ ap (λ ys. take (length ns) (n ∷ ns) ++ ys) list.1 ∙ ap (λ k. take k (n ∷ ns) ++ (list.0 ++ last)) count)

-- and of chunks between pieces all but the first and the last
run-stays : (before chunks piece rest last : List ℕ) → AreChunks chunks → EndsWith last rest
    → (some : List ℕ) × EndsWith (drop 1 (take (length chunks - 1) chunks) ++ (some ++ last)) (rejoined (before ++ (chunks ++ piece)) rest)
run-stays before chunks piece rest last d e =
    let all = within chunks d in
    (all.0, subst (λ xs. EndsWith (drop 1 (take (length chunks - 1) chunks) ++ (all.0 ++ last)) xs) (sym (rejoined-append before (chunks ++ piece) rest)) (rejoined-ends before _ (rejoined (chunks ++ piece) rest) all.1))
  where
    within : (chunks : List ℕ) → AreChunks chunks → (some : List ℕ) × EndsWith (drop 1 (take (length chunks - 1) chunks) ++ (some ++ last)) (rejoined (chunks ++ piece) rest)
    within [] d = ([], rejoined-ends piece last rest e)
    within (n ∷ []) d =
        let but = all-but-last n [] (rejoined piece rest) d in
        ([], joined-ends n last (rejoined piece rest) (rejoined-ends piece last rest e))
    within (n ∷ m ∷ ms) d =
        let x = rejoined piece rest in
        let but = all-but-last n (m ∷ ms) x d in
        let list = ends-list last (joined but.0 x) (joined-ends but.0 last x (rejoined-ends piece last rest e)) in
        let count : suc (length ms) ≡ suc (suc (length ms)) - 1 = omega arith in
        let inside = take (length ms) (m ∷ ms) in
        let made : rejoined ((n ∷ m ∷ ms) ++ piece) rest ≡ n ∷ (inside ++ (list.0 ++ last)) =
        rejoined-append (n ∷ m ∷ ms) piece rest ∙ but.1 ∙ ap (λ ys. n ∷ (inside ++ ys)) list.1 in
        (list.0, subst (λ k. EndsWith (drop 1 (take k (n ∷ m ∷ ms)) ++ (list.0 ++ last)) (rejoined ((n ∷ m ∷ ms) ++ piece) rest)) count (inr (n, [], made)))

-- ---- the chunks that lie wholly in a run, between what it has of others

front-split : (k : ℕ) (ns : List ℕ) → (piece : List ℕ) × (front_of k ns ≡ take (whole k ns) ns ++ piece)
front-split k [] = ([], refl)
front-split k (n ∷ ns) = at (front-split (k - n) ns) (nat_lt k n)
  where
    at : ((piece : List ℕ) × (front_of (k - n) ns ≡ take (whole (k - n) ns) ns ++ piece)) → (less : Bool) → (piece : List ℕ) × ((if less then (if nat_lt 0 k then k ∷ [] else []) else n ∷ front_of (k - n) ns) ≡ take (if less then 0 else suc (whole (k - n) ns)) (n ∷ ns) ++ piece)
    at more true = ((if nat_lt 0 k then k ∷ [] else []), refl)
    at more false = (more.0, ap (λ xs. n ∷ xs) more.1)

begun-none : (ns : List ℕ) → begun 0 ns ≡ 0
begun-none [] = refl
begun-none (n ∷ ns) = refl

drop-none : (k : ℕ) → drop {A = ℕ} k [] ≡ []
drop-none zero = refl
drop-none (suc k) = refl

part-split : (a b : ℕ) (ns : List ℕ) → AreChunks ns → (before : List ℕ) × (piece : List ℕ) × (part_of a b ns ≡ before ++ (drop (begun a ns) (take (whole b ns) ns) ++ piece))
part-split a b [] d = ([], [], refl)
part-split a b (n ∷ ns) d = at (part-split (a - n) (b - n) ns d.3) (nat_lt b n) (nat_lt a n) refl (nat_lt 0 a) refl
  where
    at : ((before : List ℕ) × (piece : List ℕ) × (part_of (a - n) (b - n) ns ≡ before ++ (drop (begun (a - n) ns) (take (whole (b - n) ns) ns) ++ piece))) → (short : Bool) (less : Bool) → nat_lt a n ≡ less → (some : Bool) → nat_lt 0 a ≡ some
        → (before : List ℕ) × (piece : List ℕ)
        × (behind_of a (if short then (if nat_lt 0 b then b ∷ [] else []) else n ∷ front_of (b - n) ns)
        ≡ before ++ (drop (if some then suc (begun (a - n) ns) else 0) (take (if short then 0 else suc (whole (b - n) ns)) (n ∷ ns)) ++ piece))
    at rest true less e some f =
        let one = behind_of a (if nat_lt 0 b then b ∷ [] else []) in
        (one, [], sym (append-nil one) ∙ ap (λ xs. one ++ (xs ++ [])) (sym (drop-none (if some then suc (begun (a - n) ns) else 0))))
    at rest false true e true f =
        let more = front-split (b - n) ns in
        let none : 0 ≡ a - n = omega (arith, lt-true a n e) in (
          (n - a) ∷ [],
          more.0,
          ap (λ c. if c then (n - a) ∷ front_of (b - n) ns else behind_of (a - n) (front_of (b - n) ns)) e
              ∙ ap (λ xs. (n - a) ∷ xs) (more.1 ∙ ap (λ k. drop k (take (whole (b - n) ns) ns) ++ more.0) (sym (begun-none ns) ∙ ap (λ k. begun k ns) none)),
        )
    at rest false true e false f =
        let more = front-split (b - n) ns in
        let same : n - a ≡ n = omega (arith, lt-false 0 a f) in
        ([], more.0, ap (λ c. if c then (n - a) ∷ front_of (b - n) ns else behind_of (a - n) (front_of (b - n) ns)) e ∙ (λ i. same i ∷ more.1 i))
    at more false false e true f =
        (more.0, more.1, ap (λ c. if c then (n - a) ∷ front_of (b - n) ns else behind_of (a - n) (front_of (b - n) ns)) e ∙ more.2)
    at rest false false e false f = absurd (omega (arith, lt-false a n e, lt-false 0 a f, d.0))

behind-split : (a : ℕ) (ns : List ℕ) → AreChunks ns → (before : List ℕ) × (behind_of a ns ≡ before ++ drop (begun a ns) ns)
behind-split a [] d = ([], refl)
behind-split a (n ∷ ns) d = at (behind-split (a - n) ns d.3) (nat_lt a n) refl (nat_lt 0 a) refl
  where
    at : ((before : List ℕ) × (behind_of (a - n) ns ≡ before ++ drop (begun (a - n) ns) ns)) → (less : Bool) → nat_lt a n ≡ less → (some : Bool) → nat_lt 0 a ≡ some
        → (before : List ℕ) × ((if less then (n - a) ∷ ns else behind_of (a - n) ns) ≡ before ++ drop (if some then suc (begun (a - n) ns) else 0) (n ∷ ns))
    at rest true e true f =
        let none : 0 ≡ a - n = omega (arith, lt-true a n e) in
        ((n - a) ∷ [], ap (λ k. (n - a) ∷ drop k ns) (sym (begun-none ns) ∙ ap (λ k. begun k ns) none))
    at rest true e false f =
        let same : n - a ≡ n = omega (arith, lt-false 0 a f) in
        ([], ap (λ k. k ∷ ns) same)
    at rest false e true f = rest
    at rest false e false f = absurd (omega (arith, lt-false a n e, lt-false 0 a f, d.0))

-- ---- what stays

chunks-take : (k : ℕ) (ns : List ℕ) → AreChunks ns → AreChunks (take k ns)
chunks-take zero ns d = tt
chunks-take (suc k) [] d = tt
chunks-take (suc k) (n ∷ ns) d = (d.0, d.1, apart k ns d.2, chunks-take k ns d.3)
  where
    apart : (k : ℕ) (ns : List ℕ) → IsApart n ns → IsApart n (take k ns)
    apart zero ns a = tt
    apart (suc k) [] a = tt
    apart (suc k) (m ∷ ms) a = a

pub chunks-drop : (k : ℕ) (ns : List ℕ) → AreChunks ns → AreChunks (drop k ns)
chunks-drop zero ns d = d
chunks-drop (suc k) [] d = tt
chunks-drop (suc k) (n ∷ ns) d = chunks-drop k ns d.3

whole-within : (k : ℕ) (ns : List ℕ) → whole k ns ≤ length ns
whole-within k [] = omega arith
whole-within k (n ∷ ns) = at (whole-within (k - n) ns) (nat_lt k n)
  where
    at : whole (k - n) ns ≤ length ns → (less : Bool) → (if less then 0 else suc (whole (k - n) ns)) ≤ suc (length ns)
    at rest true = omega arith
    at rest false = omega (arith, rest)

take-long : (w : ℕ) (ns : List ℕ) → w ≤ length ns → length (take w ns) ≡ w
take-long zero ns le = refl
take-long (suc w) [] le = absurd (omega (arith, le))
take-long (suc w) (n ∷ ns) le = ap suc (take-long w ns (omega (arith, le)))

take-shorter : (w : ℕ) (ns : List ℕ) → take (w - 1) (take w ns) ≡ take (w - 1) ns
take-shorter zero ns = refl
take-shorter (suc w) ns =
    let count : suc w - 1 ≡ w = omega arith in
    ap (λ k. take k (take (suc w) ns)) count ∙ less w ns ∙ ap (λ k. take k ns) (sym count)
  where
    less : (w : ℕ) (ns : List ℕ) → take w (take (suc w) ns) ≡ take w ns
    less zero ns = refl
    less (suc w) [] = refl
    less (suc w) (n ∷ ns) = ap (λ xs. n ∷ xs) (less w ns)

shrunk : (g w : ℕ) (ns : List ℕ) → w ≤ length ns → drop 1 (take (length (drop g (take w ns)) - 1) (drop g (take w ns))) ≡ drop (g + 1) (take (w - 1) ns)
shrunk zero w ns le = ap (λ k. drop 1 (take (k - 1) (take w ns))) (take-long w ns le) ∙ ap (drop 1) (take-shorter w ns)
shrunk (suc g) zero ns le = sym (drop-none (suc g + 1))
shrunk (suc g) (suc w) [] le = absurd (omega (arith, le))
shrunk (suc g) (suc w) (n ∷ ns) le = shrunk g w ns (omega (arith, le)) ∙ step w
  where
    step : (w : ℕ) → drop (g + 1) (take (w - 1) ns) ≡ drop (suc g + 1) (take (suc w - 1) (n ∷ ns))
    step zero = drop-none (g + 1) ∙ sym (drop-none (suc g + 1))
    step (suc w) =
        let one : suc w - 1 ≡ w = omega arith in
        let two : suc (suc w) - 1 ≡ suc w = omega arith in
        let three : suc (g + 1) ≡ suc g + 1 = omega arith in
        ap (λ k. drop (g + 1) (take k ns)) one ∙ ap (λ k. drop k (n ∷ take w ns)) three ∙ ap (λ k. drop (suc g + 1) (take k (n ∷ ns))) (sym two)

drop-next : (g : ℕ) (ns : List ℕ) → drop 1 (drop g ns) ≡ drop (g + 1) ns
drop-next zero ns = refl
drop-next (suc g) [] = sym (drop-none (suc g + 1))
drop-next (suc g) (n ∷ ns) =
    let next : suc (g + 1) ≡ suc g + 1 = omega arith in
    drop-next g ns ∙ ap (λ k. drop k (n ∷ ns)) next

-- chunks are what they are set before none
rejoined-same : (ns : List ℕ) → AreChunks ns → rejoined ns [] ≡ ns
rejoined-same [] d = refl
rejoined-same (n ∷ ns) d = ap (joined n) (rejoined-same ns d.3) ∙ joined-apart-same n ns d.0 d.2

-- a run set before others
run-inner : (a b : ℕ) (ns rest last : List ℕ) → AreChunks ns → EndsWith last rest → (some : List ℕ) × EndsWith (inner a b ns ++ (some ++ last)) (rejoined (part_of a b ns) rest)
run-inner a b ns rest last d e =
    let parts = part-split a b ns d in
    let chunks = drop (begun a ns) (take (whole b ns) ns) in
    let stays = run-stays parts.0 chunks parts.1 rest last (chunks-drop (begun a ns) (take (whole b ns) ns) (chunks-take (whole b ns) ns d)) e in (
      stays.0,
      subst (λ xs. EndsWith (inner a b ns ++ (stays.0 ++ last)) (rejoined xs rest)) (sym parts.2)
          (subst (λ xs. EndsWith (xs ++ (stays.0 ++ last)) (rejoined (parts.0 ++ (chunks ++ parts.1)) rest)) (shrunk (begun a ns) (whole b ns) ns (whole-within b ns)) stays.1),
    )

-- the lines behind
behind-inner : (a : ℕ) (ns : List ℕ) → AreChunks ns → EndsWith (drop (begun a ns + 1) ns) (rejoined (behind_of a ns) [])
behind-inner a ns d =
    let parts = behind-split a ns d in
    let left = drop (begun a ns) ns in
    subst (λ xs. EndsWith (drop (begun a ns + 1) ns) (rejoined xs [])) (sym parts.1)
    (subst (λ xs. EndsWith (drop (begun a ns + 1) ns) xs) (sym (rejoined-append parts.0 left []))
    (rejoined-ends parts.0 _ (rejoined left []) (subst (λ xs. EndsWith (drop (begun a ns + 1) ns) xs) (sym (rejoined-same left (chunks-drop (begun a ns) ns d)))
    (subst (λ xs. EndsWith xs left) (drop-next (begun a ns) ns) (itself left)))))
  where
    itself : (xs : List ℕ) → EndsWith (drop 1 xs) xs
    itself [] = inl (refl, refl)
    itself (x ∷ xs) = inr (x, [], refl)

pub exchanged-stay : (keep mid from count : ℕ) (ns : List ℕ) → IsDivision count ns
    → (a b c : List ℕ) × (exchanged_at (exchange_at keep mid from) ns ≡ take (whole keep ns - 1) ns ++ (a ++ (inner mid from ns ++ (b ++ (inner keep mid ns ++ (c ++ drop (begun from ns + 1) ns))))))
exchanged-stay keep mid from count ns division =
    let d = division.chunks in
    let last = drop (begun from ns + 1) ns in
    let behind = rejoined (behind_of from ns) [] in
    let one = run-inner keep mid ns behind last d (behind-inner from ns d) in
    let first = rejoined (part_of keep mid ns) behind in
    let two = run-inner mid from ns first (inner keep mid ns ++ (one.0 ++ last)) d one.1 in
    let second = rejoined (part_of mid from ns) first in
    let parts = front-split keep ns in
    let chunks = take (whole keep ns) ns in
    let three = front-stays chunks parts.0 second (inner mid from ns ++ (two.0 ++ (inner keep mid ns ++ (one.0 ++ last)))) (chunks-take (whole keep ns) ns d) two.1 in
    let count = take-long (whole keep ns) ns (whole-within keep ns) in (
      three.0,
      two.0,
      one.0,
      ap (λ xs. rejoined xs second) parts.1 ∙ three.1
          ∙ ap (λ xs. xs ++ (three.0 ++ (inner mid from ns ++ (two.0 ++ (inner keep mid ns ++ (one.0 ++ last)))))) (ap (λ k. take (k - 1) chunks) count ∙ take-shorter (whole keep ns) ns),
    )
