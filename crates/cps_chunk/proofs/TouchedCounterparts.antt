-- What the lines of each chunk did before an edit, by lengths and by counterparts.
use Rattle.std.proofs.Common.{◌≡◌, inl, inr, ℕ, zero, suc, ◌+◌, ◌-◌, ◌<◌, ◌≤◌, refl, sym, ap, subst, ◌∙◌, Bool, true, false, List, [], ◌∷◌, ◌++◌, length, get_or, take, drop, map, reverse, Option, None, Some, arith}
use Rattle.std.specs.Prelude.{if◌then◌else◌, nat_eq, sum}
use Rattle.std.specs.Bool.{Decides}
use Rattle.std.specs.Option.{option_eq}
use Rattle.std.specs.Cmp.Lexicographic.{pointwise}
use Rattle.std.proofs.lemmas.Bool.{cases_lt}
use Rattle.std.proofs.lemmas.Bool.Decides.{Decides-eqb}
use Rattle.std.proofs.lemmas.Slice.Eq.{slice_eq-Decides}
use Rattle.std.proofs.lemmas.List.{length-append, length-map, length-take-le, length-drop, length-reverse, get_or-take, get_or-drop, get_or-map, get_or-append-add, get_or_append_left, ext_get_or, drop-drop}
use Rattle.std.proofs.lemmas.List.Sums.{sum_by-cons}
use Rattle.cps_state.specs.Course.{Trace}
use Rattle.cps_state.specs.Keys.{first_state}
use Rattle.cps_edit.specs.Numbers.{numbers}
use Rattle.cps_chunk.specs.Division.{IsDivision}
use Rattle.cps_chunk.specs.Exchange.{numbers_of}
use Rattle.cps_chunk.specs.Put.{put_at, Puts}
use Rattle.cps_chunk.specs.Staying.{stay_in_front, stay_behind}
use Rattle.cps_chunk.proofs.StayingLemmas.{AreSome, chunks-some, front-same, front-olds, front-news, front-lines}
use Rattle.cps_chunk.specs.ChunkLaws.{counterparts, counterparts_in, Stays, StaysByCounterparts}
use Rattle.cps_edit.specs.Passes.{traces_of}
use Rattle.cps_edit.specs.Splice.{spliced}
use Rattle.cps_edit.specs.Disturbed.{finals_in}
use Rattle.cps_edit.specs.Renewed.{nones}
use Rattle.cps_chunk.specs.Touched.{cut, done_before, touched_from}
use Rattle.cps_chunk.specs.TouchedLaws.{did_with, TouchedByCounterparts}
use Rattle.cps_chunk.proofs.ChunkEnds.{total-sum, same-fronts}
use Rattle.cps_chunk.proofs.ChunkCounterparts.{length-numbers, get-numbers, get-some, same-number, sum-reverse, last-ones, sum-split, next-sum, take-shorter}

-- ---- tests

decides : {X : Type 0} (eq : X → X → Bool) → ((a b : X) → eq a b ≡ true → a ≡ b) → ((a : X) → eq a a ≡ true) → (a b : X) → Decides (eq a b) (a ≡ b)
decides eq is itself a b = (is a b, λ same. subst (λ x. eq a x ≡ true) same (itself a))

option-is : (a b : Option ℕ) → option_eq nat_eq a b ≡ true → a ≡ b
option-is None None h = refl
option-is None (Some b) h = cc
option-is (Some a) None h = cc
option-is (Some a) (Some b) h = ap Some ((Decides-eqb a b).0 h)

option-itself : (a : Option ℕ) → option_eq nat_eq a a ≡ true
option-itself None = refl
option-itself (Some a) = (Decides-eqb a a).1 refl

run-decides : (xs ys : List (Option ℕ)) → Decides (pointwise (option_eq nat_eq) xs ys) (xs ≡ ys)
run-decides xs ys = slice_eq-Decides (decides (option_eq nat_eq) option-is option-itself) xs ys (pointwise (option_eq nat_eq) xs ys) refl

-- ---- cut lists

length-nones : (X : Type 0) (n : ℕ) → length (nones {X = X} n) ≡ n
length-nones X zero = refl
length-nones X (suc n) = ap suc (length-nones X n)

module _ {X : Type 0} where
  length-cut : (ns : List ℕ) (xs : List X) → length (cut ns xs) ≡ length ns
  length-cut [] xs = refl
  length-cut (n ∷ ns) xs = ap suc (length-cut ns (drop n xs))

  get-cut : (ns : List ℕ) (xs : List X) (j : ℕ) → j < length ns → get_or (cut ns xs) j [] ≡ take (get_or ns j 0) (drop (sum (take j ns)) xs)
  get-cut [] xs j lt = absurd (omega (arith, lt))
  get-cut (n ∷ ns) xs zero lt = refl
  get-cut (n ∷ ns) xs (suc j) lt =
      get-cut ns (drop n xs) j (omega (arith, lt)) ∙ ap (take (get_or ns j 0)) (drop-drop (sum (take j ns)) n xs)
      ∙ ap (λ k. take (get_or ns j 0) (drop k xs)) (sym (sum_by-cons (λ x. x) n (take j ns)))

  get-nones : (n k : ℕ) → k < n → get_or (nones {X = X} n) k None ≡ None
  get-nones zero k lt = absurd (omega (arith, lt))
  get-nones (suc n) zero lt = refl
  get-nones (suc n) (suc k) lt = get-nones n k (omega (arith, lt))

  -- ---- looked up among the old chunks

  did-some : (i : ℕ) (olds : List (List ℕ)) (dones : List (List X)) (cs : List (Option ℕ)) → i < length olds → length dones ≡ length olds → map Some (get_or olds i []) ≡ cs
      → ((k : ℕ) → k < i → map Some (get_or olds k []) ≡ cs → ⊥) → did_with olds dones cs ≡ Some (get_or dones i [])
  did-some i [] dones cs lt len is others = absurd (omega (arith, lt))
  did-some i (ns ∷ olds) [] cs lt len is others = absurd (omega (arith, len))
  did-some zero (ns ∷ olds) (done ∷ dones) cs lt len is others = ap (λ b. if b then Some done else did_with olds dones cs) ((run-decides (map Some ns) cs).1 is)
  did-some (suc i) (ns ∷ olds) (done ∷ dones) cs lt len is others =
      by (pointwise (option_eq nat_eq) (map Some ns) cs) refl
      (did-some i olds dones cs (omega (arith, lt)) (omega (arith, len)) is (λ k less. others (suc k) (omega (arith, less))))
    where
      by : (b : Bool) → pointwise (option_eq nat_eq) (map Some ns) cs ≡ b → did_with olds dones cs ≡ Some (get_or dones i [])
          → (if b then Some done else did_with olds dones cs) ≡ Some (get_or dones i [])
      by true e rest = absurd (others 0 (omega arith) ((run-decides (map Some ns) cs).0 e))
      by false e rest = rest

  did-none : (olds : List (List ℕ)) (dones : List (List X)) (cs : List (Option ℕ)) → ((k : ℕ) → k < length olds → map Some (get_or olds k []) ≡ cs → ⊥)
      → did_with olds dones cs ≡ None
  did-none [] dones cs others = refl
  did-none (ns ∷ olds) [] cs others = refl
  did-none (ns ∷ olds) (done ∷ dones) cs others =
      by (pointwise (option_eq nat_eq) (map Some ns) cs) refl (did-none olds dones cs (λ k less. others (suc k) (omega (arith, less))))
    where
      by : (b : Bool) → pointwise (option_eq nat_eq) (map Some ns) cs ≡ b → did_with olds dones cs ≡ None → (if b then Some done else did_with olds dones cs) ≡ None
      by true e rest = absurd (others 0 (omega arith) ((run-decides (map Some ns) cs).0 e))
      by false e rest = rest

-- ---- the numbers of old chunks

some-line : (k : ℕ) (ns : List ℕ) → AreSome ns → k < length ns → 1 ≤ get_or ns k 0
some-line k [] s lt = absurd (omega (arith, lt))
some-line zero (m ∷ ms) s lt = s.0
some-line (suc k) (m ∷ ms) s lt = some-line k ms s.1 (omega (arith, lt))

chunk-ends : (k : ℕ) (ns : List ℕ) → k < length ns → sum (take k ns) + get_or ns k 0 ≤ sum ns
chunk-ends k ns lt = omega (arith, sum-split k ns, next-sum k ns lt)

run-of-numbers : (count at n : ℕ) → at + n ≤ count → take n (drop at (numbers 0 count)) ≡ numbers at n
run-of-numbers count at n le =
    let len : length (take n (drop at (numbers 0 count))) ≡ n = length-take-le n (drop at (numbers 0 count)) (omega (arith, le, length-drop at (numbers 0 count), length-numbers 0 count)) in
    ext_get_or 0 (take n (drop at (numbers 0 count))) (numbers at n) (len ∙ sym (length-numbers at n))
    (λ k lt.
    let here : k < n = omega (arith, lt, len) in
    get_or-take n (drop at (numbers 0 count)) k 0 here ∙ get_or-drop at (numbers 0 count) k 0
    ∙ get-numbers 0 count (at + k) (omega (arith, here, le)) ∙ (let same : 0 + (at + k) ≡ at + k = omega arith in same) ∙ sym (get-numbers at n k here))

old-numbers : (count : ℕ) (olds : List ℕ) → IsDivision count olds → (i : ℕ) → i < length olds → get_or (cut olds (numbers 0 count)) i [] ≡ numbers_of i olds
old-numbers count olds d i lt =
    get-cut olds (numbers 0 count) i lt ∙ run-of-numbers count (sum (take i olds)) (get_or olds i 0) (omega (arith, chunk-ends i olds lt, d.total))

same-chunk : (olds : List ℕ) → AreSome olds → (i k : ℕ) → i < length olds → k < length olds → map Some (numbers_of i olds) ≡ map Some (numbers_of k olds) → i ≡ k
same-chunk olds some i k a b e =
    let p = sum (take i olds) in
    let q = sum (take k olds) in
    let first : Some (p + 0) ≡ Some (q + 0) =
    sym (get-some p (get_or olds i 0) 0 (omega (arith, some-line i olds some a))) ∙ ap (λ xs. get_or xs 0 None) e ∙ get-some q (get_or olds k 0) 0 (omega (arith, some-line k olds some b)) in
    same-fronts i k olds some (omega (arith, a)) (omega (arith, b)) (omega (arith, same-number (p + 0) (q + 0) first, total-sum (take i olds), total-sum (take k olds)))

-- ---- by lengths and by counterparts

module _ (law : StaysByCounterparts) (keep from come count : ℕ) (olds news : List ℕ) (d : IsDivision count olds) (order : keep ≤ from) (within : from ≤ count)
    (some : 0 < (from - keep) + come) (is : news ≡ put_at keep (from - keep) come olds) (new : IsDivision (keep + (come + (count - from))) news) (xs : List Trace) where
  abbrev s : ℕ
  s = stay_in_front keep olds news

  abbrev t : ℕ
  t = stay_behind (count - from) olds news

  abbrev chunks : List (List ℕ)
  chunks = cut olds (numbers 0 count)

  abbrev dones : List (List Trace)
  dones = cut olds xs

  abbrev every : List (Option ℕ)
  every = counterparts count keep from come

  abbrev did : List (Option ℕ) → Option (List Trace)
  did = did_with chunks dones

  few-olds : t ≤ length olds
  few-olds = omega (arith, front-olds (count - from) (reverse olds) (reverse news), length-reverse olds)

  few-news : t ≤ length news
  few-news = omega (arith, front-news (count - from) (reverse olds) (reverse news), length-reverse news)

  apart : s + t ≤ length news
  apart = elim (cases_lt (length news - t) s) [ inl over ↦ absurd (overlap over) | inr le ↦ omega (arith, le, few-news) ]
    where
      overlap : length news - t < s → ⊥
      overlap over =
          let m = length news - t in
          let all = front-news keep olds news in
          let short : m < length news = omega (arith, over, all) in
          let whole = sum-split (m + 1) (take s news) in
          let part = ap sum (take-shorter (m + 1) s news (omega (arith, over))) in
          let back : sum (drop m news) ≤ count - from =
          omega (
            arith,
            ap sum (last-ones t news few-news),
            sum-reverse (drop m news),
            ap sum (front-same (count - from) (reverse olds) (reverse news)),
            front-lines (count - from) (reverse olds) (reverse news),
          ) in
          omega (
            arith,
            whole,
            part,
            back,
            sum-split m news,
            sum-split (m + 1) news,
            next-sum m news short,
            some-line m news (chunks-some news new.chunks) short,
            front-lines keep olds news,
            ap sum (front-same keep olds news),
            new.total,
          )

  old-did : (j i : ℕ) → j < length news → i < length olds → Stays count keep from olds news j i → did (counterparts_in every news j) ≡ Some (get_or dones i [])
  old-did j i jn io stays =
      let here = (law keep from come count olds news d order within some is j i jn io).0 stays in
      did-some i chunks dones (counterparts_in every news j) (omega (arith, io, length-cut olds (numbers 0 count))) (length-cut olds xs ∙ sym (length-cut olds (numbers 0 count)))
      (ap (map Some) (old-numbers count olds d i io) ∙ sym here)
      (λ k lt e.
      let ko : k < length olds = omega (arith, lt, io) in
      omega (arith, lt, same-chunk olds (chunks-some olds d.chunks) k i ko io (ap (map Some) (sym (old-numbers count olds d k ko)) ∙ e ∙ here)))

  new-did : (j : ℕ) → s ≤ j → j < length news - t → did (counterparts_in every news j) ≡ None
  new-did j le lt =
      did-none chunks dones (counterparts_in every news j)
      (λ k less e.
      let ko : k < length olds = omega (arith, less, length-cut olds (numbers 0 count)) in
      let jn : j < length news = omega (arith, lt) in
      elim ((law keep from come count olds news d order within some is j k jn ko).1 (sym e ∙ ap (map Some) (old-numbers count olds d k ko))) [
        | inl front ↦ omega (arith, front.0, le)
        | inr back ↦ omega (arith, back.0, lt)
      ])

  abbrev fronts : List (Option (List Trace))
  fronts = map Some (take s dones)

  abbrev mids : List (Option (List Trace))
  mids = nones (length news - s - t)

  abbrev backs : List (Option (List Trace))
  backs = map Some (drop (length olds - t) dones)

  length-first : length (take s dones) ≡ s
  length-first = length-take-le s dones (omega (arith, length-cut olds xs, front-olds keep olds news))

  length-fronts : length fronts ≡ s
  length-fronts = length-map (take s dones) Some ∙ length-first

  length-backs : length backs ≡ t
  length-backs =
      let len : length (drop (length olds - t) dones) ≡ t = omega (arith, length-drop (length olds - t) dones, length-cut olds xs, few-olds) in
      length-map (drop (length olds - t) dones) Some ∙ len

  length-dones : length (fronts ++ (mids ++ backs)) ≡ length news
  length-dones =
      omega (arith, length-append fronts (mids ++ backs), length-append mids backs, length-fronts, length-backs, length-nones (List Trace) (length news - s - t), apart)

  at-front : (j : ℕ) → j < s → get_or (fronts ++ (mids ++ backs)) j None ≡ Some (get_or dones j [])
  at-front j lt =
      get_or_append_left fronts (mids ++ backs) None j (omega (arith, lt, length-fronts))
      ∙ get_or-map Some (take s dones) j [] None (omega (arith, lt, length-first)) ∙ ap Some (get_or-take s dones j [] lt)

  at-mid : (j : ℕ) → s ≤ j → j < length news - t → get_or (fronts ++ (mids ++ backs)) j None ≡ None
  at-mid j le lt =
      let here : length fronts + (j - s) ≡ j = omega (arith, length-fronts, le) in
      let short : j - s < length news - s - t = omega (arith, le, lt) in
      ap (λ k. get_or (fronts ++ (mids ++ backs)) k None) (sym here) ∙ get_or-append-add fronts (mids ++ backs) (j - s) None
      ∙ get_or_append_left mids backs None (j - s) (omega (arith, short, length-nones (List Trace) (length news - s - t))) ∙ get-nones (length news - s - t) (j - s) short

  at-back : (j i : ℕ) → length news - t ≤ j → j < length news → j + length olds ≡ i + length news → get_or (fronts ++ (mids ++ backs)) j None ≡ Some (get_or dones i [])
  at-back j i le lt e =
      let k = j - (length news - t) in
      let one : length fronts + (length news - s - t + k) ≡ j = omega (arith, length-fronts, le, apart) in
      let two : length mids + k ≡ length news - s - t + k = omega (arith, length-nones (List Trace) (length news - s - t)) in
      let old : length olds - t + k ≡ i = omega (arith, le, e, few-olds, few-news) in
      let short : k < length (drop (length olds - t) dones) = omega (arith, le, lt, few-olds, few-news, length-drop (length olds - t) dones, length-cut olds xs) in
      ap (λ x. get_or (fronts ++ (mids ++ backs)) x None) (sym one) ∙ get_or-append-add fronts (mids ++ backs) (length news - s - t + k) None
      ∙ ap (λ x. get_or (mids ++ backs) x None) (sym two) ∙ get_or-append-add mids backs k None
      ∙ get_or-map Some (drop (length olds - t) dones) k [] None short ∙ ap Some (get_or-drop (length olds - t) dones k [] ∙ ap (λ x. get_or dones x []) old)

  at-each : (j : ℕ) → j < length news → get_or (fronts ++ (mids ++ backs)) j None ≡ did (counterparts_in every news j)
  at-each j lt = elim (cases_lt j s) [
    | inl front ↦ at-front j front ∙ sym (old-did j j lt (omega (arith, front, front-olds keep olds news)) (inl (front, refl)))
    | inr past ↦ elim (cases_lt j (length news - t)) [
      | inl mid ↦ at-mid j past mid ∙ sym (new-did j past mid)
      | inr back ↦ behind back
    ]
  ]
    where
      behind : length news - t ≤ j → get_or (fronts ++ (mids ++ backs)) j None ≡ did (counterparts_in every news j)
      behind back =
          let i = length olds - t + (j - (length news - t)) in
          let e : j + length olds ≡ i + length news = omega (arith, back, few-olds, few-news) in
          at-back j i back lt e ∙ sym (old-did j i lt (omega (arith, back, lt, few-olds, few-news)) (inr (back, e)))

  pub dones-same : done_before xs s t olds news ≡ map did (cut news every)
  dones-same =
      ext_get_or None (fronts ++ (mids ++ backs)) (map did (cut news every)) (length-dones ∙ sym (length-map (cut news every) did ∙ length-cut news every))
      (λ j lt.
      let here : j < length news = omega (arith, lt, length-dones) in
      at-each j here
      ∙ sym (get_or-map did (cut news every) j [] None (omega (arith, here, length-cut news every)) ∙ ap did (get-cut news every j here)))

pub touched-by-counterparts : StaysByCounterparts → Puts → TouchedByCounterparts
touched-by-counterparts law puts lines splice olds news d order within some is =
    let count = length lines in
    let gone = splice.from - splice.keep in
    let come = length splice.new in
    let fits : splice.keep + gone ≤ count = omega (arith, order, within) in
    let sums : count - gone + come ≡ splice.keep + (come + (count - splice.from)) = omega (arith, order, within) in
    let made : IsDivision (count - gone + come) news = subst (IsDivision (count - gone + come)) (sym is) (puts splice.keep gone come count olds d fits) in
    let new : IsDivision (splice.keep + (come + (count - splice.from))) news = subst (λ k. IsDivision k news) sums made in
    ap (touched_from (finals_in lines) (finals_in (spliced lines splice)) first_state (cut news (spliced lines splice)))
    (dones-same law splice.keep splice.from come count olds news d order within some is new (traces_of lines))
