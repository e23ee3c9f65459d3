-- Chunks that stay by their lengths are those whose lines are the counterparts of an old chunk's.
use Rattle.std.proofs.Common.{◌≡◌, ◌⊎◌, inl, inr, ℕ, zero, suc, ◌+◌, ◌-◌, ◌<◌, ◌≤◌, refl, sym, ap, subst, ◌∙◌, List, [], ◌∷◌, ◌++◌, length, get_or, take, drop, map, reverse, Option, None, Some, arith}
use Rattle.std.specs.Prelude.{replicate, sum}
use Rattle.std.proofs.lemmas.Bool.{cases_lt}
use Rattle.std.proofs.lemmas.List.{drop-drop, drop_more, take-append-drop, length-take-le, length-drop, length-map, length-append, length-replicate, length-reverse, reverse-append, reverse-reverse, get_or-take, get_or-drop, get_or-map, get_or-replicate, get_or-append-add, get_or_append_left, ext_get_or, take_at}
use Rattle.std.proofs.lemmas.List.Sums.{sum_by-append, sum_by-take-drop}
use Rattle.cps_edit.specs.Numbers.{numbers}
use Rattle.cps_chunk.specs.Division.{IsDivision, Insertions}
use Rattle.cps_chunk.specs.Exchange.{numbers_of}
use Rattle.cps_chunk.specs.Put.{Puts}
use Rattle.cps_chunk.specs.Staying.{same_front}
use Rattle.cps_chunk.proofs.StayingLemmas.{AreSome, chunks-some, front-past, front-same, front-olds, front-news, front-lines}
use Rattle.cps_chunk.specs.ChunkLaws.{counterparts, Stays, StaysByCounterparts}
use Rattle.cps_chunk.proofs.ChunkEnds.{total, total-sum, same-fronts, KeepsFront, MeetsBehind}
use Rattle.cps_chunk.proofs.PutChunks.{put-front, put-meets}

-- ---- numbers one behind another

pub length-numbers : (at n : ℕ) → length (numbers at n) ≡ n
length-numbers at zero = refl
length-numbers at (suc n) = ap suc (length-numbers (at + 1) n)

pub get-numbers : (at n k : ℕ) → k < n → get_or (numbers at n) k 0 ≡ at + k
get-numbers at zero k lt = absurd (omega (arith, lt))
get-numbers at (suc n) zero lt = omega arith
get-numbers at (suc n) (suc k) lt = omega (arith, get-numbers (at + 1) n k (omega (arith, lt)))

length-some : (at n : ℕ) → length (map Some (numbers at n)) ≡ n
length-some at n = length-map (numbers at n) Some ∙ length-numbers at n

pub get-some : (at n k : ℕ) → k < n → get_or (map Some (numbers at n)) k None ≡ Some (at + k)
get-some at n k lt = get_or-map Some (numbers at n) k 0 None (omega (arith, lt, length-numbers at n)) ∙ ap Some (get-numbers at n k lt)

abbrev code : Option ℕ → ℕ
code None = 0
code (Some n) = n + 1

pub same-number : (n m : ℕ) → Some n ≡ Some m → n ≡ m
same-number n m e = omega (arith, ap code e)

no-number : (n : ℕ) → None ≡ Some n → ⊥
no-number n e = omega (arith, ap code e)

abbrev no-line : Option ℕ
no-line = None

-- ---- a run of counterparts

module _ (all : List (Option ℕ)) where
  run-is : (p n at : ℕ) → p + n ≤ length all → ((k : ℕ) → k < n → get_or all (p + k) None ≡ Some (at + k)) → take n (drop p all) ≡ map Some (numbers at n)
  run-is p n at le each =
      let count : length (take n (drop p all)) ≡ n = length-take-le n (drop p all) (omega (arith, le, length-drop p all)) in
      ext_get_or None (take n (drop p all)) (map Some (numbers at n)) (count ∙ sym (length-some at n))
      (λ k lt.
      let here : k < n = omega (arith, lt, count) in
      get_or-take n (drop p all) k None here ∙ get_or-drop p all k None ∙ each k here ∙ sym (get-some at n k here))

  run-has : (p n at m : ℕ) → p + n ≤ length all → take n (drop p all) ≡ map Some (numbers at m) → (n ≡ m) × ((k : ℕ) → k < n → get_or all (p + k) None ≡ Some (at + k))
  run-has p n at m le is =
      let count : length (take n (drop p all)) ≡ n = length-take-le n (drop p all) (omega (arith, le, length-drop p all)) in
      let same : n ≡ m = sym count ∙ ap length is ∙ length-some at m in (
        same,
        λ k lt. sym (get_or-take n (drop p all) k None lt ∙ get_or-drop p all k None) ∙ ap (λ xs. get_or xs k None) is ∙ get-some at m k (omega (arith, lt, same)),
      )

module _ (count keep from come : ℕ) (order : keep ≤ from) (within : from ≤ count) where
  abbrev all : List (Option ℕ)
  all = counterparts count keep from come

  abbrev first : List (Option ℕ)
  first = map Some (numbers 0 keep)

  abbrev fresh : List (Option ℕ)
  fresh = replicate come None

  abbrev later : List (Option ℕ)
  later = map Some (numbers from (count - from))

  length-all : length all ≡ keep + (come + (count - from))
  length-all =
      omega (arith, length-append first (fresh ++ later), length-append fresh later, length-some 0 keep, length-replicate come no-line, length-some from (count - from))

  in-front : (q : ℕ) → q < keep → get_or all q None ≡ Some q
  in-front q lt =
      let same : 0 + q ≡ q = omega arith in
      get_or_append_left first (fresh ++ later) None q (omega (arith, lt, length-some 0 keep)) ∙ get-some 0 keep q lt ∙ ap Some same

  in-new : (q : ℕ) → keep ≤ q → q < keep + come → get_or all q None ≡ None
  in-new q le lt =
      let k = q - keep in
      let here : length first + k ≡ q = omega (arith, length-some 0 keep, le) in
      let short : k < come = omega (arith, lt, le) in
      ap (λ i. get_or all i None) (sym here) ∙ get_or-append-add first (fresh ++ later) k None
      ∙ get_or_append_left fresh later None k (omega (arith, short, length-replicate come no-line)) ∙ get_or-replicate come k None None short

  in-behind : (q : ℕ) → keep + come ≤ q → q < keep + (come + (count - from)) → get_or all q None ≡ Some (from + (q - (keep + come)))
  in-behind q le lt =
      let k = q - (keep + come) in
      let one : length first + (come + k) ≡ q = omega (arith, length-some 0 keep, le) in
      let two : length fresh + k ≡ come + k = omega (arith, length-replicate come no-line) in
      ap (λ i. get_or all i None) (sym one) ∙ get_or-append-add first (fresh ++ later) (come + k) None
      ∙ ap (λ i. get_or (fresh ++ later) i None) (sym two) ∙ get_or-append-add fresh later k None ∙ get-some from (count - from) k (omega (arith, le, lt))

-- ---- lists from their ends

pub sum-reverse : (ns : List ℕ) → sum (reverse ns) ≡ sum ns
sum-reverse [] = refl
sum-reverse (n ∷ ns) =
    let one = sum_by-append (λ x. x) (n ∷ []) ns in
    omega (arith, ap sum (reverse-append (n ∷ []) ns), sum_by-append (λ x. x) (reverse ns) (n ∷ []), sum-reverse ns, one)

pub last-ones : (k : ℕ) (xs : List ℕ) → k ≤ length xs → take k (reverse xs) ≡ reverse (drop (length xs - k) xs)
last-ones k xs le =
    let front = take (length xs - k) xs in
    let back = drop (length xs - k) xs in
    let len : length (reverse back) ≡ k = omega (arith, length-reverse back, length-drop (length xs - k) xs, le) in
    ap (λ l. take k (reverse l)) (sym (take-append-drop (length xs - k) xs)) ∙ ap (take k) (reverse-append front back) ∙ take_at (reverse back) (reverse front) k len

-- ---- chunks that stay

pub take-shorter : (i j : ℕ) (ns : List ℕ) → i ≤ j → take i (take j ns) ≡ take i ns
take-shorter zero j ns le = refl
take-shorter (suc i) zero ns le = absurd (omega (arith, le))
take-shorter (suc i) (suc j) [] le = refl
take-shorter (suc i) (suc j) (n ∷ ns) le = ap (λ xs. n ∷ xs) (take-shorter i j ns (omega (arith, le)))

front-take : (i j : ℕ) (olds news : List ℕ) → i ≤ j → take j olds ≡ take j news → take i olds ≡ take i news
front-take i j olds news le e = sym (take-shorter i j olds le) ∙ ap (take i) e ∙ take-shorter i j news le

pub next-sum : (k : ℕ) (ns : List ℕ) → k < length ns → sum (drop k ns) ≡ get_or ns k 0 + sum (drop (k + 1) ns)
next-sum k ns lt =
    let e = drop_more ns k 0 lt in
    omega (arith, ap total e, total-sum (drop k ns), total-sum (drop (k + 1) ns))

first-of : (i : ℕ) (ns : List ℕ) → get_or (drop i ns) 0 0 ≡ get_or ns i 0
first-of zero ns = refl
first-of (suc i) [] = refl
first-of (suc i) (n ∷ ns) = first-of i ns

length-take-most : (i : ℕ) (ns : List ℕ) → length (take i ns) ≤ length ns
length-take-most zero ns = omega arith
length-take-most (suc i) [] = omega arith
length-take-most (suc i) (n ∷ ns) = omega (arith, length-take-most i ns)

take-next : (i : ℕ) (ns : List ℕ) → i < length ns → take (i + 1) ns ≡ take i ns ++ get_or ns i 0 ∷ []
take-next i [] lt = absurd (omega (arith, lt))
take-next zero (n ∷ ns) lt = refl
take-next (suc i) (n ∷ ns) lt =
    let one : suc i + 1 ≡ suc (i + 1) = omega arith in
    ap (λ k. take k (n ∷ ns)) one ∙ ap (λ xs. n ∷ xs) (take-next i ns (omega (arith, lt)))

pub sum-split : (i : ℕ) (ns : List ℕ) → sum (take i ns) + sum (drop i ns) ≡ sum ns
sum-split i ns = sum_by-take-drop (λ x. x) ns i

-- chunks that are the same and lie within so many lines count
front-counts : (k lines : ℕ) (olds news : List ℕ) → k ≤ length olds → take k olds ≡ take k news → sum (take k olds) ≤ lines → k ≤ same_front lines olds news
front-counts k lines olds news some same within =
    let o : take k olds ++ drop k olds ≡ olds = take-append-drop k olds in
    let n : take k olds ++ drop k news ≡ news = ap (λ xs. xs ++ drop k news) same ∙ take-append-drop k news in
    let c = front-past lines (take k olds) (drop k olds) (drop k news) within in
    let whole : same_front lines (take k olds ++ drop k olds) (take k olds ++ drop k news) ≡ same_front lines olds news = λ j. same_front lines (o j) (n j) in
    omega (arith, length-take-le k olds some, c, whole)

module _ (keep from come count : ℕ) (olds news : List ℕ) (d : IsDivision count olds) (order : keep ≤ from) (within : from ≤ count) (some : 0 < (from - keep) + come)
    (new : IsDivision (keep + (come + (count - from))) news) (kept : KeepsFront keep olds news) (meets : MeetsBehind (count - from) olds news) (j i : ℕ) (jn : j < length news) (io : i < length olds) where
  abbrev every : List (Option ℕ)
  every = counterparts count keep from come

  abbrev p : ℕ
  p = sum (take j news)

  abbrev n : ℕ
  n = get_or news j 0

  abbrev old-p : ℕ
  old-p = sum (take i olds)

  abbrev old-n : ℕ
  old-n = get_or olds i 0

  some-at : (k : ℕ) (ns : List ℕ) → AreSome ns → k < length ns → 1 ≤ get_or ns k 0
  some-at k [] s lt = absurd (omega (arith, lt))
  some-at zero (m ∷ ms) s lt = s.0
  some-at (suc k) (m ∷ ms) s lt = some-at k ms s.1 (omega (arith, lt))

  next-front : (k : ℕ) (ns : List ℕ) → k < length ns → sum (take (k + 1) ns) ≡ sum (take k ns) + get_or ns k 0
  next-front k ns lt = omega (arith, sum-split k ns, sum-split (k + 1) ns, next-sum k ns lt)

  one-line : 1 ≤ n
  one-line = some-at j news (chunks-some news new.chunks) jn

  rest : sum (drop j news) ≡ n + sum (drop (j + 1) news)
  rest = next-sum j news jn

  old-rest : sum (drop i olds) ≡ old-n + sum (drop (i + 1) olds)
  old-rest = next-sum i olds io

  lines : p + sum (drop j news) ≡ keep + (come + (count - from))
  lines = sum-split j news ∙ new.total

  old-lines : old-p + sum (drop i olds) ≡ count
  old-lines = sum-split i olds ∙ d.total

  long : p + n ≤ length every
  long = omega (arith, length-all count keep from come order within, lines, rest)

  front-stays : j < same_front keep olds news → j ≡ i → take n (drop p every) ≡ map Some (numbers_of i olds)
  front-stays lt e =
      let s = same_front keep olds news in
      let same = front-same keep olds news in
      let more : take (j + 1) olds ≡ take (j + 1) news = front-take (j + 1) s olds news (omega (arith, lt)) same in
      let before : take j olds ≡ take j news = front-take j s olds news (omega (arith, lt)) same in
      let length-here : get_or olds j 0 ≡ n =
      sym (get_or-take (j + 1) olds j 0 (omega arith)) ∙ ap (λ xs. get_or xs j 0) more ∙ get_or-take (j + 1) news j 0 (omega arith) in
      let number : old-p ≡ p = ap (λ k. sum (take k olds)) (sym e) ∙ ap sum before in
      let lines-here : old-n ≡ n = ap (λ k. get_or olds k 0) (sym e) ∙ length-here in
      let whole = sum-split (j + 1) (take s olds) in
      let part = ap sum (take-shorter (j + 1) s olds (omega (arith, lt))) in
      let grows = next-front j olds (omega (arith, e, io)) in
      let inside : p + n ≤ keep = omega (arith, front-lines keep olds news, whole, part, grows, ap sum before, length-here) in
      run-is every p n p long (λ k lt-k. in-front count keep from come order within (p + k) (omega (arith, lt-k, inside)))
      ∙ (λ k. map Some (numbers (sym number k) (sym lines-here k)))

  behind-stays : length news - same_front (count - from) (reverse olds) (reverse news) ≤ j → j + length olds ≡ i + length news → take n (drop p every) ≡ map Some (numbers_of i olds)
  behind-stays le e =
      let t = same_front (count - from) (reverse olds) (reverse news) in
      let o = length olds - t in
      let m = length news - t in
      let few-olds : t ≤ length olds = omega (arith, front-olds (count - from) (reverse olds) (reverse news), length-reverse olds) in
      let few-news : t ≤ length news = omega (arith, front-news (count - from) (reverse olds) (reverse news), length-reverse news) in
      let turned : reverse (drop o olds) ≡ reverse (drop m news) =
      sym (last-ones t olds few-olds) ∙ front-same (count - from) (reverse olds) (reverse news) ∙ last-ones t news few-news in
      let tails : drop o olds ≡ drop m news = sym (reverse-reverse (drop o olds)) ∙ ap reverse turned ∙ reverse-reverse (drop m news) in
      let k = j - m in
      let here : m + k ≡ j = omega (arith, le) in
      let there : o + k ≡ i = omega (arith, le, e, few-olds, few-news) in
      let old-tail : drop k (drop o olds) ≡ drop i olds = drop-drop k o olds ∙ ap (λ x. drop x olds) there in
      let same : drop j news ≡ drop i olds = ap (λ x. drop x news) (sym here) ∙ sym (drop-drop k m news) ∙ ap (drop k) (sym tails) ∙ old-tail in
      let few : sum (drop o olds) ≤ count - from =
      omega (arith, front-lines (count - from) (reverse olds) (reverse news), ap sum (last-ones t olds few-olds), sum-reverse (drop o olds)) in
      let inside : sum (drop i olds) ≤ count - from = omega (arith, few, sum-split k (drop o olds), ap sum old-tail) in
      let first-here : n ≡ old-n = sym (first-of j news) ∙ ap (λ xs. get_or xs 0 0) same ∙ first-of i olds in
      let equal = ap sum same in
      run-is every p n old-p long
      (λ x lt.
      let at : from + (p + x - (keep + come)) ≡ old-p + x = omega (arith, lines, old-lines, equal, inside, within) in
      in-behind count keep from come order within (p + x) (omega (arith, lines, equal, inside)) (omega (arith, lt, lines, rest)) ∙ ap Some at)
      ∙ ap (λ x. map Some (numbers old-p x)) first-here

  is-old : take n (drop p every) ≡ map Some (numbers_of i olds) → Stays count keep from olds news j i
  is-old is = by (cases_lt p keep)
    where
      has : (n ≡ old-n) × ((k : ℕ) → k < n → get_or every (p + k) None ≡ Some (old-p + k))
      has = run-has every p n old-p old-n long is

      begins : get_or every p None ≡ Some old-p
      begins =
          let a : p + 0 ≡ p = omega arith in
          let b : old-p + 0 ≡ old-p = omega arith in
          ap (λ k. get_or every k None) (sym a) ∙ has.1 0 (omega (arith, one-line)) ∙ ap Some b

      total-lines : length every ≡ keep + (come + (count - from))
      total-lines = length-all count keep from come order within

      -- no chunk goes on across the lines that go or come
      no-seam : p ≡ old-p → p < keep → keep < p + n → ⊥
      no-seam same lt over =
          let k = keep - p in
          let at : p + k ≡ keep = omega (arith, lt) in
          let number : old-p + k ≡ keep = omega (arith, lt, same) in
          let seam : get_or every keep None ≡ Some keep = ap (λ x. get_or every x None) (sym at) ∙ has.1 k (omega (arith, lt, over)) ∙ ap Some number in
          elim (cases_lt 0 come) [
            | inl more ↦ no-number keep (sym (in-new count keep from come order within keep (omega arith) (omega (arith, more))) ∙ seam)
            | inr none ↦ omega (
              arith,
              none,
              some,
              order,
              total-lines,
              long,
              over,
              same-number (from + (keep - (keep + come))) keep
                  (sym (in-behind count keep from come order within keep (omega (arith, none)) (omega (arith, over, long, total-lines))) ∙ seam),
            )
          ]

      in-place : p < keep → Stays count keep from olds news j i
      in-place lt =
          let same : p ≡ old-p = same-number p old-p (sym (in-front count keep from come order within p lt) ∙ begins) in
          let inside : p + n ≤ keep = elim (cases_lt keep (p + n)) [ inl over ↦ absurd (no-seam same lt over) | inr le ↦ le ] in
          let front : take j news ≡ take j olds = kept j (omega (arith, lt, total-sum (take j news))) in
          let short : j ≤ length olds = shorter (omega (arith, jn)) (ap length front) in
          let number : j ≡ i =
          same-fronts j i olds (chunks-some olds d.chunks) short (omega (arith, io))
          (omega (arith, total-sum (take j olds), total-sum (take i olds), ap sum front, same)) in
          let length-here : get_or olds j 0 ≡ n = ap (λ k. get_or olds k 0) number ∙ sym has.0 in
          let within-olds : j < length olds = omega (arith, number, io) in
          let next : take (j + 1) olds ≡ take (j + 1) news =
          take-next j olds within-olds ∙ (λ k. sym front k ++ length-here k ∷ []) ∙ sym (take-next j news jn) in
          let grows = next-front j olds within-olds in
          inl (omega (arith, front-counts (j + 1) keep olds news (omega (arith, within-olds)) next (omega (arith, grows, ap sum front, length-here, inside))), number)
        where
          shorter : j ≤ length news → length (take j news) ≡ length (take j olds) → j ≤ length olds
          shorter le e = omega (arith, length-take-le j news le, e, length-take-most j olds)

      at-end : keep + come ≤ p → Stays count keep from olds news j i
      at-end le =
          let number : from + (p - (keep + come)) ≡ old-p =
          same-number (from + (p - (keep + come))) old-p (sym (in-behind count keep from come order within p le (omega (arith, lines, rest, one-line))) ∙ begins) in
          let equal : sum (drop j news) ≡ sum (drop i olds) = omega (arith, number, lines, old-lines, le, within) in
          let few : sum (drop j news) ≤ count - from = omega (arith, lines, le) in
          let one = drop_more news j 0 jn in
          let two = drop_more olds i 0 io in
          let later = total-sum (drop (j + 1) news) in
          let old-later = total-sum (drop (i + 1) olds) in
          let same-later = meets j i n old-n (drop (j + 1) news) (drop (i + 1) olds) one two (omega (arith, few, rest, later)) (omega (arith, equal, rest, old-rest, later, old-later, has.0)) in
          let same : drop j news ≡ drop i olds = one ∙ (λ k. has.0 k ∷ same-later k) ∙ sym two in
          let o : reverse (drop j news) ++ reverse (take i olds) ≡ reverse olds =
          ap (λ xs. reverse xs ++ reverse (take i olds)) same ∙ sym (reverse-append (take i olds) (drop i olds)) ∙ ap reverse (take-append-drop i olds) in
          let m : reverse (drop j news) ++ reverse (take j news) ≡ reverse news = sym (reverse-append (take j news) (drop j news)) ∙ ap reverse (take-append-drop j news) in
          let counts = front-past (count - from) (reverse (drop j news)) (reverse (take i olds)) (reverse (take j news)) (omega (arith, few, sum-reverse (drop j news))) in
          let there : same_front (count - from) (reverse (drop j news) ++ reverse (take i olds)) (reverse (drop j news) ++ reverse (take j news))
          ≡ same_front (count - from) (reverse olds) (reverse news) = λ k. same_front (count - from) (o k) (m k) in
          inr (
            omega (arith, counts, there, length-reverse (drop j news), length-drop j news),
            omega (arith, ap length same, length-drop j news, length-drop i olds, jn, io),
          )

      by : (p < keep) ⊎ (keep ≤ p) → Stays count keep from olds news j i
      by (inl lt) = in-place lt
      by (inr le) = elim (cases_lt p (keep + come)) [
        | inl fresh-line ↦ absurd (no-number old-p (sym (in-new count keep from come order within p le fresh-line) ∙ begins))
        | inr past ↦ at-end past
      ]

pub stays-by-counterparts : Insertions → Puts → StaysByCounterparts
stays-by-counterparts insertions puts keep from come count olds news d order within some is j i jn io =
    let all : keep + (from - keep) ≡ from = omega (arith, order) in
    let sums : total olds ≡ count = total-sum olds ∙ d.total in
    let made = puts keep (from - keep) come count olds d (omega (arith, all, within)) in
    let lines : count - (from - keep) + come ≡ keep + (come + (count - from)) = omega (arith, order, within) in
    let new : IsDivision (keep + (come + (count - from))) news = subst (λ k. IsDivision k news) lines (subst (IsDivision (count - (from - keep) + come)) (sym is) made) in
    let kept : KeepsFront keep olds news = subst (KeepsFront keep olds) (sym is) (put-front insertions keep (from - keep) come olds d.chunks (omega (arith, sums, all, within))) in
    let last : total olds - (keep + (from - keep)) ≡ count - from = omega (arith, sums, all) in
    let meets : MeetsBehind (count - from) olds news =
    subst (λ b. MeetsBehind b olds news) last (subst (MeetsBehind (total olds - (keep + (from - keep))) olds) (sym is) (put-meets keep (from - keep) come olds puts d.chunks (omega (arith, sums, all, within)))) in (
      λ s. elim s [
        | inl front ↦ front-stays keep from come count olds news d order within some new kept meets j i jn io front.0 front.1
        | inr back ↦ behind-stays keep from come count olds news d order within some new kept meets j i jn io back.0 back.1
      ],
      is-old keep from come count olds news d order within some new kept meets j i jn io,
    )
