-- The chunks around an edit: those in front of it, those that it cuts, and those behind it.
use Rattle.std.proofs.Common.{arith, ◌≡◌, ℕ, ◌+◌, ◌-◌, ◌<◌, ◌≤◌, get_or, set, refl, sym, ap, subst, ◌∙◌, List, ◌∷◌, ◌++◌, length, take, drop}
use Rattle.std.specs.Prelude.{sum}
use Rattle.std.proofs.lemmas.List.{take_all, take-map, drop-map, take-take, drop-drop, map-append}
use Rattle.std.proofs.lemmas.List.Sums.{sum_by-take-drop, sum_by-take-le}
use Rattle.cps_state.specs.Course.{Trace}
use Rattle.cps_chunk.specs.declared.chunk.Chunk.{Chunk}
use Rattle.cps_chunk.specs.Code.Chunk.{AreChunksOf, IsChunkOf, lengths_of}
use Rattle.cps_chunk.proofs.ChunkLemmas.{chunks-long, chunks-append, chunks-behind, chunks-within}
use Rattle.cps_chunk.specs.declared.sparse.SparseItem.{SparseItem}
use Rattle.cps_chunk.specs.declared.walk.Baseline.{Baseline}
use Rattle.cps_chunk.specs.Sparse.{AreWithin}
use Rattle.cps_chunk.specs.Code.Walk.{stretch}
use Rattle.cps_chunk.proofs.WalkLemmas.{lengths-front, stretch-all, stretch-part, lengths-next, lengths-drop, lengths-set, chunk-at, chunk-set}
use Rattle.cps_chunk.specs.Code.Looks.{items_before, items_from}
use Rattle.cps_chunk.specs.declared.put.ChunkSplice.{ChunkSplice}
use Rattle.cps_live.specs.Code.StillChunks.{AreStillChunks, CutsAround, IsStillChunk}
use Rattle.cps_live.proofs.StretchLemmas.{before-within, from-within, stretch-join, stretch-stretch}

-- ---- chunk by chunk

module _ (base : Baseline) (start : ℕ) (cs ds : List Chunk) (same : lengths_of ds ≡ lengths_of cs) (i at : ℕ) (c : Chunk) (lt : i < length ds) (is : c ≡ get_or ds i c)
    (place : at ≡ start + sum (take i (lengths_of cs))) where
  abbrev a : ℕ
  a = sum (take i (lengths_of ds))

  abbrev b : ℕ
  b = sum (take (i + 1) (lengths_of ds))

  abbrev end : ℕ
  end = start + sum (lengths_of cs)

  begins : start + a ≡ at
  begins = ap (λ ns. start + sum (take i ns)) same ∙ sym place

  stops : start + b ≡ at + c.lines
  stops = omega (arith, begins, lengths-next ds i c lt is)

  pub next-place : at + c.lines ≡ start + sum (take (i + 1) (lengths_of cs))
  next-place = sym stops ∙ ap (λ ns. start + sum (take (i + 1) ns)) same

  pub next-within : at + c.lines ≤ end
  next-within = omega (arith, next-place, sum_by-take-le (λ n. n) (lengths_of cs) (i + 1))

  pub lengths-here : drop i (lengths_of cs) ≡ c.lines ∷ drop (i + 1) (lengths_of cs)
  lengths-here = ap (drop i) (sym same) ∙ lengths-drop ds i c lt is ∙ ap (λ ns. c.lines ∷ drop (i + 1) ns) same

  lines-here : stretch a b (stretch start end base.traces.now) ≡ stretch at (at + c.lines) base.traces.now
  lines-here =
      stretch-stretch base.traces.now start end a b (omega (arith, stops, next-within)) ∙ (λ j. stretch (begins j) (stops j) base.traces.now)

  pub chunk-here : AreChunksOf base.hashing ds (stretch start end base.traces.now) → IsChunkOf base.hashing (stretch at (at + c.lines) base.traces.now) c
  chunk-here chunks =
      subst (λ (us : List Trace). IsChunkOf base.hashing us c) lines-here
      (chunk-at base.hashing ds (stretch start end base.traces.now) i a b c lt is refl refl chunks)

  pub chunks-here : (d : Chunk) → IsStillChunk base at c d → AreChunksOf base.hashing ds (stretch start end base.traces.now)
      → AreChunksOf base.hashing (set ds i d) (stretch start end base.traces.now)
  chunks-here d still chunks =
      chunk-set base.hashing ds (stretch start end base.traces.now) (stretch at (at + c.lines) base.traces.now) i a b c d lt is still.lines refl refl (sym lines-here) still.chunk chunks

  pub lengths-still : (d : Chunk) → IsStillChunk base at c d → lengths_of (set ds i d) ≡ lengths_of cs
  lengths-still d still = lengths-set base.hashing ds i c d lt is still.lines ∙ same

-- ---- all of them, and the lines of a cut

module _ {base : Baseline} {cut : ChunkSplice} {cs : List Chunk} (h : CutsAround base cut cs) where
  pub cut-within : cut.from ≤ length base.traces.now
  cut-within =
      let ends = ap sum (take-map (λ (c : Chunk). c.lines) cut.end cs) in
      let within = chunks-within base.hashing cut.end cs base.traces.now h.chunks in
      omega (arith, h.ends, h.behind, ends, within)

  pub still-same : AreStillChunks base 0 cs cs
  still-same =
      let all : length base.traces.now ≤ 0 + sum (lengths_of cs) = omega (arith, chunks-long base.hashing cs base.traces.now h.chunks) in
      let whole : stretch 0 (0 + sum (lengths_of cs)) base.traces.now ≡ base.traces.now = take_all (0 + sum (lengths_of cs)) base.traces.now all in
      record { chunks = subst (λ (ts : List Trace). AreChunksOf base.hashing cs ts) (sym whole) h.chunks; lengths = refl }

-- ---- the parts

-- chunks in front of an edit, those that it cuts, and those behind it; what is new of the loose lines behind it, and of those behind them
pub record AreParts (base : Baseline) (cut : ChunkSplice) (cs xs ms ys : List Chunk) (news here left : List (SparseItem Trace)) : Type 0 where
  pub cuts : CutsAround base cut cs
  pub within : AreWithin cut.from (length base.traces.now) news
  pub whole : cs ≡ xs ++ (ms ++ ys)
  pub front : xs ≡ take cut.start cs
  pub between : ms ≡ take (cut.end - cut.start) (drop cut.start cs)
  pub back : ys ≡ drop (cut.end - cut.start) (drop cut.start cs)
  pub loose : here ≡ items_before cut.behind news
  pub behind : left ≡ items_from cut.behind news

-- what two cuts of the chunks give
pub parts : {base : Baseline} {cut : ChunkSplice} {cs xs rest ms ys : List Chunk} {news here left : List (SparseItem Trace)} → CutsAround base cut cs
    → AreWithin cut.from (length base.traces.now) news → cs ≡ xs ++ rest → xs ≡ take cut.start cs → rest ≡ drop cut.start cs
    → rest ≡ ms ++ ys → ms ≡ take (cut.end - cut.start) rest → ys ≡ drop (cut.end - cut.start) rest
    → here ≡ items_before cut.behind news → left ≡ items_from cut.behind news → AreParts base cut cs xs ms ys news here left
parts {cut = cut} {xs = xs} cuts within whole front behind rest between back loose left = record {
  cuts = cuts;
  within = within;
  whole = whole ∙ ap (λ ds. xs ++ ds) rest;
  front = front;
  between = between ∙ ap (take (cut.end - cut.start)) behind;
  back = back ∙ ap (drop (cut.end - cut.start)) behind;
  loose = loose;
  behind = left;
}

module _ {base : Baseline} {cut : ChunkSplice} {cs xs ms ys : List Chunk} {news here left : List (SparseItem Trace)} (h : AreParts base cut cs xs ms ys news here left) where
  abbrev ts : List Trace
  ts = base.traces.now

  -- ---- where they stand

  pub front-sizes : lengths_of xs ≡ take cut.start (lengths_of cs)
  front-sizes = ap lengths_of h.front ∙ sym (take-map (λ (c : Chunk). c.lines) cut.start cs)

  back-is : ys ≡ drop cut.end cs
  back-is =
      let size : cut.start + (cut.end - cut.start) ≡ cut.end = omega (arith, h.cuts.ordered) in
      h.back ∙ drop-drop (cut.end - cut.start) cut.start cs ∙ ap (λ k. drop k cs) size

  pub back-sizes : lengths_of ys ≡ drop cut.end (lengths_of cs)
  back-sizes = ap lengths_of back-is ∙ sym (drop-map (λ (c : Chunk). c.lines) cut.end cs)

  pub all-long : length ts ≡ sum (lengths_of cs)
  all-long = chunks-long base.hashing cs ts h.cuts.chunks

  pub front-end : 0 + sum (lengths_of xs) ≡ cut.before
  front-end = let same = ap sum front-sizes in omega (arith, same, h.cuts.before)

  pub back-end : cut.behind + sum (lengths_of ys) ≡ length ts
  back-end =
      let same = ap sum back-sizes in
      omega (arith, same, h.cuts.behind, sum_by-take-drop (λ x. x) (lengths_of cs) cut.end, all-long)

  pub behind-within : cut.behind ≤ length ts
  behind-within = omega (arith, back-end)

  pub front-within : 0 + sum (lengths_of xs) ≤ length ts
  front-within = omega (arith, front-end, h.cuts.begins, h.cuts.order, h.cuts.ends, behind-within)

  pub back-within : cut.behind + sum (lengths_of ys) ≤ length ts
  back-within = omega (arith, back-end)

  pub keep-behind : cut.keep ≤ cut.behind
  keep-behind = omega (arith, h.cuts.order, h.cuts.ends)

  pub kept-within : cut.keep ≤ length ts
  kept-within = omega (arith, keep-behind, behind-within)

  pub before-from : cut.before ≤ cut.from
  before-from = omega (arith, h.cuts.begins, h.cuts.order)

  pub front-chunks : AreChunksOf base.hashing xs (stretch 0 (0 + sum (lengths_of xs)) ts)
  front-chunks =
      subst (λ (ds : List Chunk). AreChunksOf base.hashing ds (take (0 + sum (lengths_of xs)) ts)) (sym h.front)
      (lengths-front base.hashing cs ts cut.start (0 + sum (lengths_of xs)) (front-end ∙ h.cuts.before) h.cuts.chunks)

  pub between-chunks : AreChunksOf base.hashing ms (stretch cut.before cut.behind ts)
  between-chunks =
      let firsts = take cut.end cs in
      let same : take cut.start firsts ≡ take cut.start cs = take-take cut.start cut.end cs h.cuts.ordered in
      let size : sum (lengths_of (take cut.start firsts)) ≡ cut.before =
      ap (λ (ds : List Chunk). sum (lengths_of ds)) (same ∙ sym h.front) ∙ ap sum front-sizes ∙ sym h.cuts.before in
      let middle : drop cut.start firsts ≡ ms = sym (h.between ∙ stretch-part cut.start cut.end h.cuts.ordered cs) in
      subst (λ (ds : List Chunk). AreChunksOf base.hashing ds (stretch cut.before cut.behind ts)) middle
      (subst (λ (n : ℕ). AreChunksOf base.hashing (drop cut.start firsts) (drop n (take cut.behind ts))) size
      (chunks-behind base.hashing cut.start firsts (take cut.behind ts) (lengths-front base.hashing cs ts cut.end cut.behind h.cuts.behind h.cuts.chunks)))

  pub back-chunks : AreChunksOf base.hashing ys (stretch cut.behind (cut.behind + sum (lengths_of ys)) ts)
  back-chunks =
      let size : sum (lengths_of (take cut.end cs)) ≡ cut.behind = ap sum (sym (take-map (λ (c : Chunk). c.lines) cut.end cs)) ∙ sym h.cuts.behind in
      subst (λ (n : ℕ). AreChunksOf base.hashing ys (stretch cut.behind n ts)) (sym back-end)
      (subst (λ (us : List Trace). AreChunksOf base.hashing ys us) (sym (stretch-all cut.behind ts))
      (subst (λ (ds : List Chunk). AreChunksOf base.hashing ds (drop cut.behind ts)) (sym back-is)
      (subst (λ (n : ℕ). AreChunksOf base.hashing (drop cut.end cs) (drop n ts)) size (chunks-behind base.hashing cut.end cs ts h.cuts.chunks))))

  pub here-loose : AreWithin cut.from cut.behind here
  here-loose = subst (λ (ns : List (SparseItem Trace)). AreWithin cut.from cut.behind ns) (sym h.loose) (before-within cut.behind cut.from (length ts) news h.cuts.ends h.within)

  pub left-behind : AreWithin cut.behind (cut.behind + sum (lengths_of ys)) left
  left-behind =
      subst (λ (n : ℕ). AreWithin cut.behind n left) (sym back-end)
      (subst (λ (ns : List (SparseItem Trace)). AreWithin cut.behind (length ts) ns) (sym h.behind) (from-within cut.behind cut.from (length ts) news behind-within h.within))

  -- ---- the chunks behind an edit of what was gathered

  pub still-around : {xs2 ys2 : List Chunk} → AreStillChunks base 0 xs xs2 → AreStillChunks base cut.behind ys ys2 → AreStillChunks base 0 cs (xs2 ++ (ms ++ ys2))
  still-around {xs2 = xs2} {ys2 = ys2} one two =
      let e = cut.behind + sum (lengths_of ys) in
      let end : e ≡ 0 + sum (lengths_of cs) = omega (arith, back-end, all-long) in
      let low : cut.before ≤ cut.behind = omega (arith, h.cuts.begins, h.cuts.order, h.cuts.ends) in
      let high : cut.behind ≤ e = omega arith in
      let start : 0 ≤ cut.before = omega arith in
      let join : stretch 0 (0 + sum (lengths_of xs)) ts ++ (stretch cut.before cut.behind ts ++ stretch cut.behind e ts) ≡ stretch 0 (0 + sum (lengths_of cs)) ts =
      (λ j. stretch 0 (front-end j) ts ++ sym (stretch-join ts cut.before cut.behind e low high) j)
      ∙ sym (stretch-join ts 0 cut.before e start (omega (arith, low, high))) ∙ ap (λ n. stretch 0 n ts) end in
      record {
        chunks = subst (λ (us : List Trace). AreChunksOf base.hashing (xs2 ++ (ms ++ ys2)) us) join
            (chunks-append base.hashing xs2 (ms ++ ys2) _ _ one.chunks (chunks-append base.hashing ms ys2 _ _ between-chunks two.chunks));
        lengths = map-append (λ (c : Chunk). c.lines) xs2 (ms ++ ys2) ∙ ap (λ ns. lengths_of xs2 ++ ns) (map-append (λ (c : Chunk). c.lines) ms ys2)
            ∙ (λ j. one.lengths j ++ (lengths_of ms ++ two.lengths j))
            ∙ sym (ap lengths_of h.whole ∙ map-append (λ (c : Chunk). c.lines) xs (ms ++ ys) ∙ ap (λ ns. lengths_of xs ++ ns) (map-append (λ (c : Chunk). c.lines) ms ys));
      }

  pub still-front : {xs2 : List Chunk} → AreStillChunks base 0 xs xs2 → AreStillChunks base 0 cs (xs2 ++ (ms ++ ys))
  still-front one = still-around one (record { chunks = back-chunks; lengths = refl })
