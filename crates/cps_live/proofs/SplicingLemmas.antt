-- An edit, and what it makes of the chunks.
use Rattle.std.proofs.Common.{arith, ◌≡◌, ℕ, ◌+◌, ◌-◌, ◌<◌, ◌≤◌, sym, ap, subst, ◌∙◌, List, ◌++◌, length, take, drop}
use Rattle.std.specs.Prelude.{sum, slice_range, if◌then◌else◌}
use Rattle.std.proofs.lemmas.Bool.{lt-ltb}
use Rattle.std.proofs.lemmas.List.Sums.{sum_by-append}
use Rattle.cps_state.specs.Work.{Counts}
use Rattle.cps_chunk.specs.Division.{AreChunks, IsDivision, deleted_at, inserted_at}
use Rattle.cps_chunk.specs.Recut.{recut}
use Rattle.cps_chunk.specs.Put.{IsRecut, inserted_each, put_at}
use Rattle.cps_chunk.specs.declared.put.ChunkSplice.{ChunkSplice}
use Rattle.cps_edit.specs.Splice.{Splice, splice_at}
use Rattle.cps_chunk.specs.Code.Recuts.{Recuts}
use Rattle.cps_chunk.proofs.CutLemmas.{sum-part, sum-parts}
use Rattle.cps_chunk.proofs.PlanLemmas.{planned}
use Rattle.cps_live.specs.Code.Editing.{IsSplice, splice_of}
use Rattle.cps_live.specs.Edits.{Source, LooksOfEdit}
use Rattle.cps_live.specs.Code.Splicing.{IsSpliceFor}

pub first-few : (i : ℕ) (ns : List ℕ) → sum (take i ns) ≤ sum ns
first-few i ns = omega (arith, sum-parts i ns)

-- what it compares is what the edit does
pub splice-looks : (source : Source) (edit : Splice) (news : List ℕ) (cut : ChunkSplice) (was now : Counts) → IsSpliceFor edit source.lengths news cut
    → LooksOfEdit source (splice_of cut) (recut cut.start cut.end cut.lengths.items source.lengths) was now → LooksOfEdit source edit news was now
splice-looks source edit news cut was now is looked =
    subst (λ (s : Splice). LooksOfEdit source s news was now) is.lines (subst (λ (ns : List ℕ). LooksOfEdit source (splice_of cut) ns was now) is.divided.chunks looked)

-- it is a splice of a source with these chunks
pub splice-is : (lines : List (List ℕ)) (edit : Splice) (olds news : List ℕ) (cut : ChunkSplice) → IsSpliceFor edit olds news cut → IsDivision (length lines) olds → IsSplice lines olds cut
splice-is lines edit olds news cut is division =
    let divided = is.divided in
    let within : edit.from ≤ length lines = omega (arith, divided.ends, first-few cut.end olds, division.total) in
    let recuts : Recuts lines edit cut.start cut.end cut.lengths.items olds =
    planned lines edit cut.start cut.end cut.before cut.lengths.items olds is.order within division (subst AreChunks (sym divided.chunks) is.chunks)
    divided.ordered divided.within is.before (omega (arith, is.before, divided.begins)) divided.ends divided.tight is.count in
    record {
      recuts = subst (λ (s : Splice). Recuts lines s cut.start cut.end cut.lengths.items olds) (sym is.lines) recuts;
      before = is.before;
      behind = is.behind;
    }

-- the lines of the chunks that come
pub recut-lines : (start end : ℕ) (news olds : List ℕ) → start ≤ end → sum (recut start end news olds) + sum (slice_range olds start end) ≡ sum olds + sum news
recut-lines start end news olds ordered =
    omega (arith, sum_by-append (λ x. x) (take start olds) (news ++ drop end olds), sum_by-append (λ x. x) news (drop end olds), sum-part start end olds ordered, sum-parts end olds)

-- lines that come in the place of others
pub splice-for : (keep from : ℕ) (new : List (List ℕ)) (olds : List ℕ) (by : ChunkSplice) → keep ≤ from → from ≤ sum olds
    → IsRecut keep from olds (put_at keep (from - keep) (length new) olds) by → IsDivision (sum olds - (from - keep) + length new) (put_at keep (from - keep) (length new) olds)
    → splice_of by ≡ splice_at keep from new → by.behind ≡ sum (take by.end olds)
    → IsSpliceFor (splice_at keep from new) olds (put_at keep (from - keep) (length new) olds) by
splice-for keep from new olds by order within is again lines behind =
    let all = recut-lines by.start by.end by.lengths.items olds is.ordered in
    record {
      lines = lines;
      order = order;
      divided = record { chunks = is.chunks; ordered = is.ordered; within = is.within; begins = omega (arith, is.begins, is.before); ends = is.ends; tight = is.tight };
      before = is.before;
      behind = behind;
      count = omega (arith, all, ap sum is.chunks, again.total, order, within);
      chunks = again.chunks;
    }

-- ---- the division where one line comes, and where none does

pub put-one : (after : ℕ) (lengths : List ℕ) → put_at after (after - after) 1 lengths ≡ inserted_at after lengths
put-one after lengths =
    let none : after - after ≡ 0 = omega arith in
    let here : after + 0 ≡ after = omega arith in
    ap (λ n. put_at after n 1 lengths) none ∙ ap (λ n. inserted_at n lengths) here

pub put-same : (at : ℕ) (lengths : List ℕ) → 1 ≤ at → put_at (at - 1) (at - (at - 1)) 1 lengths ≡ lengths
put-same at lengths some =
    let one : at - (at - 1) ≡ 1 = omega (arith, some) in
    ap (λ n. put_at (at - 1) n 1 lengths) one

pub put-none : (keep from : ℕ) (lengths : List ℕ) → keep < from → put_at keep (from - keep) 0 lengths ≡ deleted_at keep (from - keep) lengths
put-none keep from lengths some =
    let here : keep + 0 ≡ keep = omega arith in
    let all : from - keep - 0 ≡ from - keep = omega arith in
    ap (λ b. if b then deleted_at (keep + 0) (from - keep - 0) lengths else inserted_each (keep + (from - keep)) (0 - (from - keep)) lengths) (lt-ltb 0 (from - keep) (omega (arith, some)))
    ∙ (λ i. deleted_at (here i) (all i) lengths)
