-- A line behind the last: which chunks stay.
use Rattle.std.proofs.Common.{arith, ◌≡◌, ℕ, ◌+◌, ◌-◌, ◌<◌, ◌≤◌, refl, sym, ap, subst, ◌∙◌, List, [], ◌∷◌, ◌++◌, append_assoc, append-nil, length, get_or, reverse, take, drop}
use Rattle.std.specs.Prelude.{sum, if◌then◌else◌}
use Rattle.std.proofs.lemmas.Bool.{lt-ltb}
use Rattle.std.proofs.lemmas.List.{get_or-map, length-append, length-take-le, reverse-append, take_at, take_all, drop_all, take-append-drop}
use Rattle.cps_chunk.specs.Division.{full, joined, AreChunks, IsDivision, grown, inserted_at}
use Rattle.cps_chunk.specs.Recut.{recut}
use Rattle.cps_chunk.specs.Staying.{same_front}
use Rattle.cps_chunk.proofs.StayingLemmas.{chunks-some, some-second, front-past, front-other, front-beyond}
use Rattle.cps_chunk.specs.Code.Chunk.{lengths_of}
use Rattle.cps_chunk.specs.declared.chunk.Chunk.{Chunk}
use Rattle.cps_edit.proofs.TakenLemmas.{drop_at}
use Rattle.cps_chunk.proofs.CutLemmas.{sum-append, sum-cons}
use Rattle.cps_live.specs.Code.ChunkList.{IsDivided}

-- ---- the new lengths

-- where lines are counted behind all of them, the last chunk grows
inserted-behind : (m k : ℕ) (ks : List ℕ) → 1 ≤ k → inserted_at (sum (m ∷ k ∷ ks)) (m ∷ k ∷ ks) ≡ m ∷ inserted_at (sum (k ∷ ks)) (k ∷ ks)
inserted-behind m k ks one =
    let s : ℕ = sum (m ∷ k ∷ ks) in
    let all : s ≡ m + sum (k ∷ ks) = sum-cons m (k ∷ ks) in
    let lt : m < s = omega (arith, all, sum-cons k ks, one) in
    let rest : s - m ≡ sum (k ∷ ks) = omega (arith, all) in
    ap (λ b. if b then m ∷ inserted_at (s - m) (k ∷ ks) else grown m (k ∷ ks)) (lt-ltb m s lt) ∙ ap (λ r. m ∷ inserted_at r (k ∷ ks)) rest

inserted-last : (ns : List ℕ) (n : ℕ) → AreChunks (ns ++ n ∷ []) → inserted_at (sum (ns ++ n ∷ [])) (ns ++ n ∷ []) ≡ ns ++ grown n []
inserted-last [] n d = refl
inserted-last (m ∷ []) n d = inserted-behind m n [] d.3.0
inserted-last (m ∷ k ∷ ks) n d = inserted-behind m k (ks ++ n ∷ []) d.3.0 ∙ ap (λ ns. m ∷ ns) (inserted-last (k ∷ ks) n d.3)

last-short : (ns : List ℕ) (n : ℕ) → AreChunks (ns ++ n ∷ []) → n ≤ full
last-short [] n d = d.1
last-short (m ∷ ns) n d = last-short ns n d.3

grown-small : (n : ℕ) → n < full → grown n [] ≡ (n + 1) ∷ []
grown-small n lt = ap (λ b. if b then (n + 1) ∷ [] else full ∷ joined 1 []) (lt-ltb n full lt)

grown-full : (n : ℕ) → n ≤ full → full ≤ n → grown n [] ≡ n ∷ 1 ∷ []
grown-full n le ge =
    let is : full ≡ n = omega arith in
    subst (λ (m : ℕ). grown m [] ≡ m ∷ 1 ∷ []) is refl

-- ---- which chunks stay

-- none behind the line
none-behind : (lines m : ℕ) (ms news : List ℕ) → lines < m → same_front lines (reverse (ms ++ m ∷ [])) news ≡ 0
none-behind lines m ms news lt = ap (λ olds. same_front lines olds news) (reverse-append ms (m ∷ [])) ∙ at news
  where
    at : (ns : List ℕ) → same_front lines (m ∷ reverse ms) ns ≡ 0
    at [] = refl
    at (n ∷ ns) = front-beyond lines m n (reverse ms) ns lt

-- and all others in front of it
grown-front : (lines m : ℕ) (ms : List ℕ) → sum ms ≤ lines → same_front lines (ms ++ m ∷ []) (ms ++ (m + 1) ∷ []) ≡ length ms
grown-front lines m ms le =
    omega (arith, front-past lines ms (m ∷ []) ((m + 1) ∷ []) le, front-other (lines - sum ms) m (m + 1) [] [] (λ same. absurd (omega (arith, same))))

begun-front : (lines : ℕ) (ms : List ℕ) → sum ms ≤ lines → same_front lines ms (ms ++ 1 ∷ []) ≡ length ms
begun-front lines ms le =
    ap (λ olds. same_front lines olds (ms ++ 1 ∷ [])) (sym (append-nil ms)) ∙ (let past = front-past lines ms [] (1 ∷ []) le in omega (arith, past))

-- ---- chunks and a last one

-- a last chunk that is not full grows
grown-last : (ms : List ℕ) (m count : ℕ) → IsDivision count (ms ++ m ∷ []) → m < full
    → IsDivided count count (length ms) (length ms + 1) ((m + 1) ∷ []) (ms ++ m ∷ []) (inserted_at count (ms ++ m ∷ []))
grown-last ms m count division small =
    let olds = ms ++ m ∷ [] in
    let k = length ms in
    let long : length olds ≡ k + 1 = length-append ms (m ∷ []) in
    let first : take k olds ≡ ms = take_at ms (m ∷ []) k refl in
    let past : drop (k + 1) olds ≡ [] = drop_all (k + 1) olds (omega (arith, long)) in
    let whole : sum olds ≡ sum ms + m = sum-append ms (m ∷ []) ∙ (let one : sum (m ∷ []) ≡ m = omega arith in ap (λ n. sum ms + n) one) in
    let some : 1 ≤ m = (some-second ms (m ∷ []) (chunks-some olds division.chunks)).0 in
    let made : recut k (k + 1) ((m + 1) ∷ []) olds ≡ ms ++ (m + 1) ∷ [] = λ i. first i ++ (m + 1) ∷ past i in
    let all : take (k + 1) olds ≡ olds = take_all (k + 1) olds (omega (arith, long)) in
    let none : length olds - (k + 1) ≡ 0 = omega (arith, long) in
    record {
      chunks =
          made ∙ sym (ap (λ n. inserted_at n olds) (sym division.total) ∙ inserted-last ms m division.chunks ∙ ap (λ ns. ms ++ ns) (grown-small m small));
      ordered = omega arith;
      within = omega (arith, long);
      begins = omega (arith, ap sum first, whole, division.total);
      ends = omega (arith, ap sum all, division.total);
      tight = record {
        front = sym (ap (λ ns. same_front count olds ns) made ∙ grown-front count m ms (omega (arith, whole, division.total)));
        back = none ∙ sym (none-behind (sum olds - count) m ms (reverse (recut k (k + 1) ((m + 1) ∷ []) olds)) (omega (arith, division.total, some)));
      };
    }

-- behind a full one another comes
begun-last : (ms : List ℕ) (m count : ℕ) → IsDivision count (ms ++ m ∷ []) → full ≤ m
    → IsDivided count count (length (ms ++ m ∷ [])) (length (ms ++ m ∷ [])) (1 ∷ []) (ms ++ m ∷ []) (inserted_at count (ms ++ m ∷ []))
begun-last ms m count division large =
    let olds = ms ++ m ∷ [] in
    let n = length olds in
    let first : take n olds ≡ olds = take_all n olds (omega arith) in
    let past : drop n olds ≡ [] = drop_all n olds (omega arith) in
    let made : recut n n (1 ∷ []) olds ≡ olds ++ 1 ∷ [] = λ i. first i ++ 1 ∷ past i in
    let none : n - n ≡ 0 = omega arith in
    record {
      chunks =
          made ∙ append_assoc ms (m ∷ []) (1 ∷ [])
          ∙ sym (ap (λ k. inserted_at k olds) (sym division.total) ∙ inserted-last ms m division.chunks ∙ ap (λ ns. ms ++ ns) (grown-full m (last-short ms m division.chunks) large));
      ordered = omega arith;
      within = omega arith;
      begins = omega (arith, ap sum first, division.total);
      ends = omega (arith, ap sum first, division.total);
      tight = record {
        front = sym (ap (λ ns. same_front count olds ns) made ∙ begun-front count olds (omega (arith, division.total)));
        back = none ∙ sym (none-behind (sum olds - count) m ms (reverse (recut n n (1 ∷ []) olds)) (omega (arith, division.total, large)));
      };
    }

-- ---- chunks, by the lines of the last

ends-with : (olds : List ℕ) (k m : ℕ) → k + 1 ≡ length olds → m ≡ get_or olds k m → olds ≡ take k olds ++ m ∷ []
ends-with olds k m count is =
    let lt : k < length olds = omega (arith, count) in
    let past : length olds ≤ k + 1 = omega (arith, count) in
    sym (take-append-drop k olds) ∙ ap (λ ds. take k olds ++ ds) (drop_at olds k m lt is ∙ ap (λ ds. m ∷ ds) (drop_all (k + 1) olds past))

last-lines : (olds : List ℕ) (k m : ℕ) → olds ≡ take k olds ++ m ∷ [] → sum olds ≡ sum (take k olds) + m
last-lines olds k m parts =
    let one : sum (m ∷ []) ≡ m = omega arith in
    ap sum parts ∙ sum-append (take k olds) (m ∷ []) ∙ ap (λ n. sum (take k olds) + n) one

-- behind so many lines a chunk with one more comes in the place of those from one on, which have so many
pub record IsAtEnd (olds : List ℕ) (count start last : ℕ) : Type 0 where
  pub divided : IsDivided count count start (length olds) ((last + 1) ∷ []) olds (inserted_at count olds)
  pub lines : sum (take start olds) + last ≡ count

pub grows : (olds : List ℕ) (k m count : ℕ) → k + 1 ≡ length olds → m ≡ get_or olds k m → IsDivision count olds → m < full → IsAtEnd olds count k m
grows olds k m count last is division small =
    let parts : olds ≡ take k olds ++ m ∷ [] = ends-with olds k m last is in
    let long : length (take k olds) ≡ k = length-take-le k olds (omega (arith, last)) in
    let made = grown-last (take k olds) m count (subst (λ (ns : List ℕ). IsDivision count ns) parts division) small in
    let here = subst (λ (n : ℕ). IsDivided count count n (n + 1) ((m + 1) ∷ []) (take k olds ++ m ∷ []) (inserted_at count (take k olds ++ m ∷ []))) long made in
    let there = subst (λ (ns : List ℕ). IsDivided count count k (k + 1) ((m + 1) ∷ []) ns (inserted_at count ns)) (sym parts) here in
    record {
      divided = subst (λ (n : ℕ). IsDivided count count k n ((m + 1) ∷ []) olds (inserted_at count olds)) last there;
      lines = omega (arith, last-lines olds k m parts, division.total);
    }

-- a new one comes in the place of none
none-at-end : (olds : List ℕ) (count : ℕ) → IsDivision count olds → IsDivided count count (length olds) (length olds) (1 ∷ []) olds (inserted_at count olds) → IsAtEnd olds count (length olds) 0
none-at-end olds count division divided = record { divided = divided; lines = omega (arith, ap sum (take_all (length olds) olds (omega arith)), division.total) }

pub begins : (olds : List ℕ) (k m count : ℕ) → k + 1 ≡ length olds → m ≡ get_or olds k m → IsDivision count olds → full ≤ m → IsAtEnd olds count (length olds) 0
begins olds k m count last is division large =
    let parts : olds ≡ take k olds ++ m ∷ [] = ends-with olds k m last is in
    none-at-end olds count division (subst (λ (ns : List ℕ). IsDivided count count (length ns) (length ns) (1 ∷ []) ns (inserted_at count ns)) (sym parts)
    (begun-last (take k olds) m count (subst (λ (ns : List ℕ). IsDivision count ns) parts division) large))

pub begins-first : (olds : List ℕ) (count : ℕ) → length olds ≡ 0 → IsDivision count olds → IsAtEnd olds count (length olds) 0
begins-first [] count none division = none-at-end [] count division (record {
  chunks = refl;
  ordered = omega arith;
  within = omega arith;
  begins = omega arith;
  ends = omega (arith, division.total);
  tight = record { front = refl; back = refl };
})
begins-first (n ∷ olds) count none division = absurd (omega (arith, none))

-- the lines of a chunk
pub length-at : (cs : List Chunk) (k : ℕ) (chunk : Chunk) → k < length cs → chunk ≡ get_or cs k chunk → chunk.lines ≡ get_or (lengths_of cs) k chunk.lines
length-at cs k chunk within is = ap (λ (c : Chunk). c.lines) is ∙ sym (get_or-map (λ (c : Chunk). c.lines) cs k chunk chunk.lines within)
