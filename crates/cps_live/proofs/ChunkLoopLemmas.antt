-- One chunk more is gone over in pass two.
use Rattle.std.proofs.Common.{arith, ◌≡◌, ℕ, ◌+◌, ◌-◌, ◌<◌, ◌≤◌, sym, ap, subst, ◌∙◌, List, length, get_or, set, take, drop}
use Rattle.std.specs.Prelude.{sum, if◌then◌else◌}
use Rattle.cps_state.specs.Course.{Trace}
use Rattle.cps_chunk.specs.declared.chunk.Chunk.{Chunk}
use Rattle.cps_chunk.specs.Code.Chunk.{AreChunksOf, IsChunkOf, lengths_of}
use Rattle.cps_final.specs.NamedFinals.{names_in}
use Rattle.cps_final.specs.declared.ends.Ends.{Ends}
use Rattle.cps_chunk.specs.declared.sparse.SparseItem.{SparseItem}
use Rattle.cps_chunk.specs.declared.walk.Baseline.{Baseline}
use Rattle.cps_final.specs.Code.Ends.{was_of, now_of}
use Rattle.cps_chunk.specs.Code.Redo.{is_passed}
use Rattle.cps_chunk.specs.Sparse.{AreWithin}
use Rattle.cps_chunk.specs.Code.Walk.{stretch}
use Rattle.cps_chunk.specs.Code.Looks.{items_before, items_from}
use Rattle.cps_live.specs.declared.second_pass.SecondPass.{SecondPass}
use Rattle.cps_live.specs.Code.SecondPass.{GoesOver, IsExactPass, redone_in, looks_at, looks_in}
use Rattle.cps_live.specs.Code.StillChunks.{AreStillChunks, IsStillChunk}
use Rattle.cps_live.proofs.StretchLemmas.{before-within}
use Rattle.cps_live.proofs.PartLemmas.{next-place, next-within, chunk-here, chunks-here, lengths-still}
use Rattle.cps_live.proofs.SecondPassLemmas.{GoesOn, exact-still, count-cut, same-redone, goes-next, looks-here}

-- of chunks, of which some were gone over, this is the next; so much is new of its lines, and so much of those behind it
pub record IsNextChunk (first next : SecondPass) (start : ℕ) (cs ds : List Chunk) (i at : ℕ) (c : Chunk) (news left here rest : List (SparseItem Trace)) : Type 0 where
  pub exact : IsExactPass first
  pub end : start + sum (lengths_of cs) ≤ length first.base.traces.now
  pub there : i < length ds
  pub is : c ≡ get_or ds i c
  pub place : at ≡ start + sum (take i (lengths_of cs))
  pub over : GoesOn first next start at (start + sum (lengths_of cs)) news left
  pub chunks : AreChunksOf first.base.hashing ds (stretch start (start + sum (lengths_of cs)) first.base.traces.now)
  pub lengths : lengths_of ds ≡ lengths_of cs
  pub front : here ≡ items_before (at + c.lines) left
  pub behind : rest ≡ items_from (at + c.lines) left

-- what an item of the list and a cut of what is new give
pub next-chunk : {first next : SecondPass} {start : ℕ} {cs ds : List Chunk} {i at : ℕ} {news left here rest : List (SparseItem Trace)} (item : Chunk) → IsExactPass first
    → start + sum (lengths_of cs) ≤ length first.base.traces.now → i < length ds → item ≡ get_or ds i item → at ≡ start + sum (take i (lengths_of cs))
    → GoesOn first next start at (start + sum (lengths_of cs)) news left
    → AreChunksOf first.base.hashing ds (stretch start (start + sum (lengths_of cs)) first.base.traces.now) → lengths_of ds ≡ lengths_of cs
    → here ≡ items_before (at + (get_or ds i item).lines) left → rest ≡ items_from (at + (get_or ds i item).lines) left
    → IsNextChunk first next start cs ds i at (get_or ds i item) news left here rest
next-chunk {ds = ds} {i = i} item exact end there is place over chunks lengths front behind = record {
  exact = exact;
  end = end;
  there = there;
  is = ap (get_or ds i) is;
  place = place;
  over = over;
  chunks = chunks;
  lengths = lengths;
  front = front;
  behind = behind;
}

module _ {first next : SecondPass} {start : ℕ} {cs ds : List Chunk} {i at : ℕ} {c : Chunk} {news left here rest : List (SparseItem Trace)}
    (h : IsNextChunk first next start cs ds i at c news left here rest) where
  abbrev end : ℕ
  end = start + sum (lengths_of cs)

  abbrev m : ℕ
  m = at + c.lines

  pub stops-within : m ≤ end
  stops-within = next-within first.base start cs ds h.lengths i at c h.there h.is h.place

  pub stops-at : m ≡ start + sum (take (i + 1) (lengths_of cs))
  stops-at = next-place first.base start cs ds h.lengths i at c h.there h.is h.place

  pub here-exact : IsExactPass next
  here-exact = exact-still first h.exact next h.over.base h.over.ends h.over.differences

  pub here-end : m ≤ length next.base.traces.now
  here-end = omega (arith, stops-within, h.end, ap (λ (b : Baseline). length b.traces.now) h.over.base)

  pub here-chunk : IsChunkOf next.base.hashing (stretch at m next.base.traces.now) c
  here-chunk =
      subst (λ (b : Baseline). IsChunkOf b.hashing (stretch at m b.traces.now) c) (sym h.over.base)
      (chunk-here first.base start cs ds h.lengths i at c h.there h.is h.place h.chunks)

  pub here-within : AreWithin at m here
  here-within = subst (λ (ns : List (SparseItem Trace)). AreWithin at m ns) (sym h.front) (before-within m at end left (omega arith) h.over.within)

  here-made : redone_in first at m (items_before m left) ≡ redone_in next at m here
  here-made = sym (same-redone first next at m here h.over.ends h.over.base ∙ ap (redone_in first at m) h.front)

  -- how many lines are made anew, of it and of those behind it
  pub here-count : length (redone_in first at end left) ≡ length (redone_in next at m here) + length (redone_in first m end rest)
  here-count =
      count-cut first at m end left (omega arith) stops-within h.end h.over.within
      ∙ (λ j. length (here-made j) + length (redone_in first m end (sym h.behind j)))

  -- and how many are compared
  pub here-looks : looks_in first (drop i (lengths_of cs)) at left ≡ looks_at next at m here + looks_in first (drop (i + 1) (lengths_of cs)) m rest
  here-looks =
      let looks = λ (e : Ends) (b : Baseline) (ns : List (SparseItem Trace)).
      if is_passed (was_of e) (now_of e) (names_in (stretch at m b.traces.now)) ns then 0 else m - at in
      looks-here first start cs ds h.lengths i at c h.there h.is h.place left
      ∙ (λ j. looks (sym h.over.ends j) (sym h.over.base j) (sym h.front j) + looks_in first (drop (i + 1) (lengths_of cs)) m (sym h.behind j))

  -- behind it
  module _ {last : SecondPass} (over : GoesOver next last at m here) where
    pub here-over : GoesOn first last start m end news rest
    here-over =
        subst (λ (ns : List (SparseItem Trace)). GoesOn first last start m end news ns) (sym h.behind)
        (goes-next first next last start at m end news left (omega arith) stops-within h.end h.over (subst (λ (ns : List (SparseItem Trace)). GoesOver next last at m ns) h.front over))

  module _ {d : Chunk} (still : IsStillChunk next.base at c d) where
    here-still : IsStillChunk first.base at c d
    here-still = record {
      chunk = subst (λ (b : Baseline). IsChunkOf b.hashing (stretch at m b.traces.now) d) h.over.base still.chunk;
      lines = still.lines;
    }

    pub here-chunks : AreChunksOf first.base.hashing (set ds i d) (stretch start end first.base.traces.now)
    here-chunks = chunks-here first.base start cs ds h.lengths i at c h.there h.is h.place d here-still h.chunks

    pub here-lengths : lengths_of (set ds i d) ≡ lengths_of cs
    here-lengths = lengths-still first.base start cs ds h.lengths i at c h.there h.is h.place d here-still

    pub here-all : AreStillChunks first.base start cs (set ds i d)
    here-all = record { chunks = here-chunks; lengths = here-lengths }
