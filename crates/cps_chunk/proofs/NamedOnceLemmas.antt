-- No old chunk is named twice.
use Rattle.std.proofs.Common.{arith, ◌≡◌, ℕ, zero, suc, ◌+◌, ◌-◌, ◌<◌, ◌≤◌, ◌⊎◌, sym, ap, subst, ◌∙◌, List, [], ◌∷◌, ◌++◌, length, get_or, take, drop, Option, Some, inl, inr}
use Rattle.std.specs.Prelude.{sum}
use Rattle.cps_edit.specs.declared.exchange.Exchange.{Exchange}
use Rattle.cps_edit.specs.Exchange.{IsWithin}
use Rattle.cps_edit.specs.Numbers.{numbers, exchanged_numbers}
use Rattle.cps_chunk.specs.declared.exchange.RecutChunk.{RecutChunk}
use Rattle.cps_chunk.specs.Code.Pieces.{AreNamed, ArePieces}

-- ---- numbers of which none stands twice

abbrev pub IsAbsent : ℕ → List ℕ → Type 0
IsAbsent m [] = Unit {0}
IsAbsent m (k ∷ ks) = (m ≡ k → ⊥) × IsAbsent m ks

abbrev pub AreDistinct : List ℕ → Type 0
AreDistinct [] = Unit {0}
AreDistinct (m ∷ ms) = IsAbsent m ms × AreDistinct ms

absent-drop : (n m : ℕ) (ms : List ℕ) → IsAbsent m ms → IsAbsent m (drop n ms)
absent-drop zero m ms out = out
absent-drop (suc n) m [] out = tt
absent-drop (suc n) m (k ∷ ms) out = absent-drop n m ms out.1

pub distinct-drop : (n : ℕ) (ms : List ℕ) → AreDistinct ms → AreDistinct (drop n ms)
distinct-drop zero ms d = d
distinct-drop (suc n) [] d = tt
distinct-drop (suc n) (m ∷ ms) d = distinct-drop n ms d.1

distinct-first : (n : ℕ) (ms : List ℕ) → 1 ≤ n → AreDistinct ms → IsAbsent (get_or ms 0 0) (drop n ms)
distinct-first zero ms one d = absurd (omega (arith, one))
distinct-first (suc n) [] one d = tt
distinct-first (suc n) (m ∷ ms) one d = absent-drop n m ms d.0

absent-first : (m : ℕ) (ms : List ℕ) → 1 ≤ length ms → IsAbsent m ms → m ≡ get_or ms 0 0 → ⊥
absent-first m [] one out is = absurd (omega (arith, one))
absent-first m (k ∷ ms) one out is = out.0 is

absent-append : (m : ℕ) (xs ys : List ℕ) → IsAbsent m xs → IsAbsent m ys → IsAbsent m (xs ++ ys)
absent-append m [] ys p q = q
absent-append m (x ∷ xs) ys p q = (p.0, absent-append m xs ys p.1 q)

absent-out : (m at n : ℕ) → (m < at) ⊎ (at + n ≤ m) → IsAbsent m (numbers at n)
absent-out m at zero out = tt
absent-out m at (suc n) (inl lt) = ((λ e. omega (arith, e, lt)), absent-out m (at + 1) n (inl (omega (arith, lt))))
absent-out m at (suc n) (inr le) = ((λ e. omega (arith, e, le)), absent-out m (at + 1) n (inr (omega (arith, le))))

distinct-run : (at n : ℕ) (ys : List ℕ) → AreDistinct ys → ((m : ℕ) → at ≤ m → m < at + n → IsAbsent m ys) → AreDistinct (numbers at n ++ ys)
distinct-run at zero ys d out = d
distinct-run at (suc n) ys d out = (
  absent-append at (numbers (at + 1) n) ys (absent-out at (at + 1) n (inl (omega arith))) (out at (omega arith) (omega arith)),
  distinct-run (at + 1) n ys d (λ m a b. out m (omega (arith, a)) (omega (arith, b))),
)

pub distinct-exchanged : (count : ℕ) (e : Exchange) → IsWithin count e → AreDistinct (exchanged_numbers count e)
distinct-exchanged count e within =
    let keep = e.keep in
    let mid = e.mid in
    let from = e.from in
    let first = within.first in
    let second = within.second in
    let four = numbers from (count - from) ++ [] in
    let three = numbers keep (mid - keep) ++ four in
    let two = numbers mid (from - mid) ++ three in
    let past : (m : ℕ) → m < from → IsAbsent m four = λ m lt. absent-append m (numbers from (count - from)) [] (absent-out m from (count - from) (inl lt)) tt in
    let d4 : AreDistinct four = distinct-run from (count - from) [] tt (λ m a b. tt) in
    let d3 : AreDistinct three = distinct-run keep (mid - keep) four d4 (λ m a b. past m (omega (arith, b, first, second))) in
    let d2 : AreDistinct two =
    distinct-run mid (from - mid) three d3
    (λ m a b. absent-append m (numbers keep (mid - keep)) four (absent-out m keep (mid - keep) (inr (omega (arith, a, first)))) (past m (omega (arith, b, second)))) in
    distinct-run 0 keep two d2 (λ m a b.
    absent-append m (numbers mid (from - mid)) three (absent-out m mid (from - mid) (inl (omega (arith, b, first))))
    (absent-append m (numbers keep (mid - keep)) four (absent-out m keep (mid - keep) (inl (omega (arith, b)))) (past m (omega (arith, b, first, second)))))

-- ---- pieces that name none of them

-- no piece names this old chunk, if one is named
abbrev pub NoneNames : Option ℕ → List RecutChunk → Type 0
NoneNames named [] = Unit {0}
NoneNames named (piece ∷ pieces) = ((i : ℕ) → named ≡ Some i → piece.old ≡ Some i → ⊥) × NoneNames named pieces

-- the first of the numbers of a piece
begins : (n : ℕ) (ms : List ℕ) (at l : ℕ) → 1 ≤ n → n ≤ length ms → take n ms ≡ numbers at l → get_or ms 0 0 ≡ at
begins zero ms at l one le e = absurd (omega (arith, one))
begins (suc n) [] at l one le e = absurd (omega (arith, le))
begins (suc n) (m ∷ ms) at zero one le e = absurd (omega (arith, ap length e))
begins (suc n) (m ∷ ms) at (suc l) one le e = ap (λ xs. get_or xs 0 0) e

module _ (lengths : List ℕ) where
  -- the first number of the old chunk that is named
  begins-named : (p : RecutChunk) (ms : List ℕ) (i : ℕ) → 1 ≤ p.lines → p.lines ≤ length ms → AreNamed lengths p.old (take p.lines ms) → p.old ≡ Some i → get_or ms 0 0 ≡ sum (take i lengths)
  begins-named p ms i one le are is =
      let named = subst (λ (old : Option ℕ). AreNamed lengths old (take p.lines ms)) is are in
      begins p.lines ms (sum (take i lengths)) (get_or lengths i 0) one le named.1

  -- others name none whose first number is not theirs
  absent-named : (named : Option ℕ) (first : ℕ) → ((i : ℕ) → named ≡ Some i → first ≡ sum (take i lengths)) → (ps : List RecutChunk) (ms : List ℕ) → ArePieces lengths ps ms → IsAbsent first ms
      → NoneNames named ps
  absent-named named first is [] ms are out = tt
  absent-named named first is (p ∷ ps) ms are out = (
    λ i one two. absent-first first ms (omega (arith, are.0, are.1)) out (is i one ∙ sym (begins-named p ms i are.0 are.1 are.2 two)),
    absent-named named first is ps (drop p.lines ms) are.3 (absent-drop p.lines first ms out),
  )

  -- the pieces behind one name another
  pub others-named : (p : RecutChunk) (ps : List RecutChunk) (ms : List ℕ) → ArePieces lengths (p ∷ ps) ms → AreDistinct ms → NoneNames p.old ps
  others-named p ps ms are distinct =
      absent-named p.old (get_or ms 0 0) (λ i is. begins-named p ms i are.0 are.1 are.2 is) ps (drop p.lines ms) are.3 (distinct-first p.lines ms are.0 distinct)
