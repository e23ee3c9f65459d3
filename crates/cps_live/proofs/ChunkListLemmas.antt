-- Chunks that are marked, made and put in the place of others.
use Rattle.std.proofs.Common.{◌≡◌, ℕ, ◌+◌, ◌-◌, ◌<◌, ◌≤◌, refl, sym, ap, subst, ◌∙◌, List, [], ◌∷◌, ◌++◌, append_assoc, length, get_or, set, take, drop, arith}
use Rattle.std.specs.Prelude.{sum}
use Rattle.std.proofs.lemmas.List.{length-take-le, length-drop, length-map, map-append, drop-map, take-map, take_all, drop_all, take_more, take-take, drop-take, drop-drop, take-append-drop, set_at, get_or_default}
use Rattle.std.proofs.lemmas.List.Sums.{sum_by_push, sum_by-take-le}
use Rattle.cps_state.specs.declared.hashing.Hashing.{Hashing}
use Rattle.cps_state.specs.Course.{Trace}
use Rattle.cps_chunk.specs.Division.{AreChunks, full, inserted_at}
use Rattle.cps_chunk.specs.Recut.{recut}
use Rattle.cps_edit.proofs.TakenLemmas.{drop_at}
use Rattle.cps_chunk.specs.declared.chunk.Chunk.{Chunk}
use Rattle.cps_chunk.specs.Code.Chunk.{IsChunkOf, AreChunksOf, lengths_of}
use Rattle.cps_chunk.proofs.ChunkLemmas.{chunks-append, chunks-one, chunks-last, chunks-set, chunks-behind}
use Rattle.cps_chunk.specs.declared.sparse.SparseItem.{SparseItem}
use Rattle.cps_chunk.specs.Sparse.{renewed, AreWithin}
use Rattle.cps_chunk.proofs.WalkLemmas.{lengths-next, lengths-front, same-long}
use Rattle.cps_chunk.specs.declared.put.ChunkSplice.{ChunkSplice}
use Rattle.cps_live.specs.Code.ChunkList.{Fits}
use Rattle.cps_live.proofs.AppendLemmas.{IsAtEnd, grows, length-at}
use Rattle.cps_live.proofs.RenewedLemmas.{renewed-next}

pub same-read : (cs : List Chunk) (i : ℕ) (c d : Chunk) → i < length cs → c ≡ get_or cs i c → d ≡ get_or cs i d → c ≡ d
same-read cs i c d lt is same = is ∙ get_or_default cs i c d lt ∙ sym same

-- ---- one chunk after another, up to that of a line

module _ (cs ds : List Chunk) (same : lengths_of ds ≡ lengths_of cs) where
  pub line-next : (i line : ℕ) (c : Chunk) → i < length ds → c ≡ get_or ds i c → line ≡ sum (take i (lengths_of cs)) → line + c.lines ≡ sum (take (i + 1) (lengths_of cs))
  line-next i line c lt is at =
      omega (arith, at, ap (λ ns. sum (take i ns)) same, ap (λ ns. sum (take (i + 1) ns)) same, lengths-next ds i c lt is)

  -- behind all chunks no line is left
  pub line-all : (i line : ℕ) → length ds ≤ i → line ≡ sum (take i (lengths_of cs)) → line ≡ sum (lengths_of cs)
  line-all i line past at =
      at ∙ ap sum (take_all i (lengths_of cs) (omega (arith, past, same-long cs ds same, length-map cs (λ (c : Chunk). c.lines))))

  pub line-first : (i line : ℕ) → line ≡ sum (take i (lengths_of cs)) → sum (lengths_of (take i ds)) ≡ line
  line-first i line at = ap sum (sym (take-map (λ (c : Chunk). c.lines) i ds)) ∙ ap (λ ns. sum (take i ns)) same ∙ sym at

-- the line of the next of some news does this now, and its chunk is marked
module _ (hashing : Hashing) (cs : List Chunk) (news : List (SparseItem Trace)) (b i k line : ℕ) (new : SparseItem Trace) (c d : Chunk) where
  pub marked-next : (ts : List Trace) → i < length news → new ≡ get_or news i new → AreWithin 0 b news → k < length cs → c ≡ get_or cs k c → d.lines ≡ c.lines
      → ((us : List Trace) (at : ℕ) → IsChunkOf hashing us c → IsChunkOf hashing (set us at new.item) d) → sum (lengths_of (take k cs)) ≡ line → line ≤ new.at
      → new.at < line + c.lines → AreChunksOf hashing cs (renewed 0 (take i news) ts) → AreChunksOf hashing (set cs k d) (renewed 0 (take (i + 1) news) ts)
  marked-next ts lt is within some at same marked first from to so_far =
      subst (λ (us : List Trace). AreChunksOf hashing (set cs k d) us) (sym (renewed-next 0 b i news new lt is within ts))
      (chunks-set hashing cs k new.at c d new.item (renewed 0 (take i news) ts) some at same marked (omega (arith, first, from)) (omega (arith, first, to)) so_far)

-- ---- chunks of these lengths

sum-next : (ns : List ℕ) (i : ℕ) → i < length ns → sum (take (i + 1) ns) ≡ sum (take i ns) + get_or ns i 0
sum-next ns i lt = ap sum (take_more ns i 0 lt) ∙ sum_by_push (λ x. x) (take i ns) (get_or ns i 0)

take-more : {X : Type 0} (n m : ℕ) (xs : List X) → take (n + m) xs ≡ take n xs ++ take m (drop n xs)
take-more n m xs = sym (take-append-drop n (take (n + m) xs)) ∙ (λ i. take-take n (n + m) xs (omega arith) i ++ drop-take n m xs i)

module _ (ns : List ℕ) (i : ℕ) (lt : i < length ns) (ts left : List Trace) (is : left ≡ drop (sum (take i ns)) ts) (within : sum ns ≤ length ts) where
  -- the lines of the next are there
  pub next-within : get_or ns i 0 ≤ length left
  next-within =
      omega (arith, within, ap length is, length-drop (sum (take i ns)) ts, sum-next ns i lt, sum_by-take-le (λ x. x) ns (i + 1))

  pub left-behind : (behind : List Trace) → behind ≡ drop (get_or ns i 0) left → behind ≡ drop (sum (take (i + 1) ns)) ts
  left-behind behind at =
      at ∙ ap (drop (get_or ns i 0)) is ∙ drop-drop (get_or ns i 0) (sum (take i ns)) ts ∙ ap (λ k. drop k ts) (sym (sum-next ns i lt))

  module _ (here : List Trace) (at : here ≡ take (get_or ns i 0) left) (c : Chunk) (hashing : Hashing) (chunk : IsChunkOf hashing here c) (cs : List Chunk) where
    pub chunks-next : AreChunksOf hashing cs (take (sum (take i ns)) ts) → AreChunksOf hashing (cs ++ c ∷ []) (take (sum (take (i + 1) ns)) ts)
    chunks-next so_far =
        let n : ℕ = sum (take i ns) in
        let whole : take n ts ++ here ≡ take (sum (take (i + 1) ns)) ts =
        ap (λ us. take n ts ++ us) (at ∙ ap (take (get_or ns i 0)) is) ∙ sym (take-more n (get_or ns i 0) ts) ∙ ap (λ k. take k ts) (sym (sum-next ns i lt)) in
        subst (λ (us : List Trace). AreChunksOf hashing (cs ++ c ∷ []) us) whole (chunks-append hashing cs (c ∷ []) (take n ts) here so_far (chunks-one hashing c here chunk))

    pub lengths-push : lengths_of cs ≡ take i ns → lengths_of (cs ++ c ∷ []) ≡ take (i + 1) ns
    lengths-push so_far =
        let lines : c.lines ≡ get_or ns i 0 = sym chunk.lines ∙ ap length at ∙ length-take-le (get_or ns i 0) left next-within in
        map-append (λ (d : Chunk). d.lines) cs (c ∷ []) ∙ (λ j. so_far j ++ lines j ∷ []) ∙ sym (take_more ns i 0 lt)

-- ---- new chunks in the place of others

module _ (hashing : Hashing) (cut : ChunkSplice) (cs : List Chunk) (olds news : List Trace) (fits : Fits hashing cut cs olds news) where
  -- the lines of the new chunks are there
  pub lines-within : sum cut.lengths.items ≤ length (drop cut.before news)
  lines-within = omega (arith, fits.count, length-drop cut.before news)

  pub chunks-recut : (ds : List Chunk) → AreChunksOf hashing ds (take (sum cut.lengths.items) (drop cut.before news)) → AreChunksOf hashing (take cut.start cs ++ (ds ++ drop cut.end cs)) news
  chunks-recut ds made =
      let n : ℕ = sum cut.lengths.items in
      let front : AreChunksOf hashing (take cut.start cs) (take cut.before news) =
      subst (λ (us : List Trace). AreChunksOf hashing (take cut.start cs) us) (sym fits.front) (lengths-front hashing cs olds cut.start cut.before fits.before fits.chunks) in
      let size : sum (lengths_of (take cut.end cs)) ≡ cut.behind = ap sum (sym (take-map (λ (e : Chunk). e.lines) cut.end cs)) ∙ sym fits.behind in
      let behind : AreChunksOf hashing (drop cut.end cs) (drop (cut.before + n) news) =
      subst (λ (us : List Trace). AreChunksOf hashing (drop cut.end cs) us) (ap (λ k. drop k olds) size ∙ sym fits.back) (chunks-behind hashing cut.end cs olds fits.chunks) in
      let whole : take cut.before news ++ (take n (drop cut.before news) ++ drop (cut.before + n) news) ≡ news =
      ap (λ us. take cut.before news ++ (take n (drop cut.before news) ++ us)) (sym (drop-drop n cut.before news))
      ∙ ap (λ us. take cut.before news ++ us) (take-append-drop n (drop cut.before news)) ∙ take-append-drop cut.before news in
      subst (λ (us : List Trace). AreChunksOf hashing (take cut.start cs ++ (ds ++ drop cut.end cs)) us) whole
      (chunks-append hashing (take cut.start cs) (ds ++ drop cut.end cs) (take cut.before news) (take n (drop cut.before news) ++ drop (cut.before + n) news) front
      (chunks-append hashing ds (drop cut.end cs) (take n (drop cut.before news)) (drop (cut.before + n) news) made behind))

pub lengths-recut : (start end : ℕ) (cs ds : List Chunk) (ns : List ℕ) → lengths_of ds ≡ ns → lengths_of (take start cs ++ (ds ++ drop end cs)) ≡ recut start end ns (lengths_of cs)
lengths-recut start end cs ds ns same =
    let lines : Chunk → ℕ = λ (c : Chunk). c.lines in
    map-append lines (take start cs) (ds ++ drop end cs) ∙ ap (λ us. lengths_of (take start cs) ++ us) (map-append lines ds (drop end cs))
    ∙ (λ i. sym (take-map lines start cs) i ++ (same i ++ sym (drop-map lines end cs) i))

-- ---- a line behind the last

module _ (cs : List Chunk) (k : ℕ) (last : k + 1 ≡ length cs) (c : Chunk) (is : c ≡ get_or cs k c) where
  split : cs ≡ take k cs ++ c ∷ []
  split =
      let behind : drop k cs ≡ c ∷ [] = drop_at cs k c (omega (arith, last)) is ∙ ap (λ ds. c ∷ ds) (drop_all (k + 1) cs (omega (arith, last))) in
      sym (take-append-drop k cs) ∙ ap (λ ds. take k cs ++ ds) behind

  put : (d : Chunk) → set cs k d ≡ take k cs ++ d ∷ []
  put d = ap (λ ds. set ds k d) split ∙ set_at (take k cs) c [] d k (length-take-le k cs (omega (arith, last)))

  -- the last chunk has one line more
  pub chunks-grown : (hashing : Hashing) (d : Chunk) (t : Trace) → ((ts : List Trace) → IsChunkOf hashing ts c → IsChunkOf hashing (ts ++ t ∷ []) d)
      → (ts : List Trace) → AreChunksOf hashing cs ts → AreChunksOf hashing (set cs k d) (ts ++ t ∷ [])
  chunks-grown hashing d t grown ts are =
      let ends : AreChunksOf hashing (take k cs ++ c ∷ []) ts = subst (λ (ds : List Chunk). AreChunksOf hashing ds ts) split are in
      let parts = chunks-last hashing (take k cs) c ts ends in
      let m : ℕ = length ts - c.lines in
      let made : AreChunksOf hashing (take k cs ++ d ∷ []) (take m ts ++ (drop m ts ++ t ∷ [])) =
      chunks-append hashing (take k cs) (d ∷ []) (take m ts) (drop m ts ++ t ∷ []) parts.front (chunks-one hashing d (drop m ts ++ t ∷ []) (grown (drop m ts) parts.last)) in
      let whole : take m ts ++ (drop m ts ++ t ∷ []) ≡ ts ++ t ∷ [] =
      sym (append_assoc (take m ts) (drop m ts) (t ∷ [])) ∙ ap (λ us. us ++ t ∷ []) (take-append-drop m ts) in
      subst (λ (ds : List Chunk). AreChunksOf hashing ds (ts ++ t ∷ [])) (sym (put d)) (subst (λ (us : List Trace). AreChunksOf hashing (take k cs ++ d ∷ []) us) whole made)

  pub lengths-grown : (d : Chunk) → AreChunks (lengths_of cs) → c.lines < full → d.lines ≡ c.lines + 1 → lengths_of (set cs k d) ≡ inserted_at (sum (lengths_of cs)) (lengths_of cs)
  lengths-grown d divided small more =
      let ls : List ℕ = lengths_of cs in
      let long : length ls ≡ length cs = length-map cs (λ (e : Chunk). e.lines) in
      let lines = length-at cs k c (omega (arith, last)) is in
      let at = grows ls k c.lines (sum ls) (omega (arith, long, last)) lines (record { chunks = divided; total = refl }) small in
      let none : drop (length ls) ls ≡ [] = drop_all (length ls) ls (omega arith) in
      ap lengths_of (put d) ∙ map-append (λ (e : Chunk). e.lines) (take k cs) (d ∷ [])
      ∙ (λ i. sym (take-map (λ (e : Chunk). e.lines) k cs) i ++ more i ∷ [])
      ∙ ap (λ ns. take k ls ++ (c.lines + 1) ∷ ns) (sym none) ∙ at.divided.chunks

-- a new one comes
pub chunks-begun : (hashing : Hashing) (cs : List Chunk) (d : Chunk) (t : Trace) → IsChunkOf hashing (t ∷ []) d → (ts : List Trace) → AreChunksOf hashing cs ts
    → AreChunksOf hashing (cs ++ d ∷ []) (ts ++ t ∷ [])
chunks-begun hashing cs d t chunk ts are = chunks-append hashing cs (d ∷ []) ts (t ∷ []) are (chunks-one hashing d (t ∷ []) chunk)

pub lengths-begun : (cs : List Chunk) (d : Chunk) → IsAtEnd (lengths_of cs) (sum (lengths_of cs)) (length (lengths_of cs)) 0 → d.lines ≡ 1
    → lengths_of (cs ++ d ∷ []) ≡ inserted_at (sum (lengths_of cs)) (lengths_of cs)
lengths-begun cs d at one =
    let ls : List ℕ = lengths_of cs in
    let all : take (length ls) ls ≡ ls = take_all (length ls) ls (omega arith) in
    let none : drop (length ls) ls ≡ [] = drop_all (length ls) ls (omega arith) in
    map-append (λ (e : Chunk). e.lines) cs (d ∷ []) ∙ (λ i. sym all i ++ one i ∷ sym none i) ∙ at.divided.chunks
