use Rattle.std.proofs.Common.{rules, arith, refl, ◌≡◌, ◌<◌, ◌≤◌, ◌+◌, ◌∙◌, length, get_or, suc, ap, subst, sym, List, drop}
use Rattle.std.specs.Prelude.{sum}
use Rattle.std.proofs.lemmas.List.{take_all}
use Rattle.cps_state.specs.Course.{Trace}
use Rattle.cps_chunk.specs.declared.chunk.Chunk.{Chunk}
use Rattle.cps_chunk.specs.Code.Chunk.{AreChunksOf, lengths_of}
use Rattle.cps_chunk.specs.declared.sparse.SparseItem.{SparseItem}
use Rattle.cps_chunk.specs.Sparse.{renewed}
use Rattle.cps_chunk.proofs.SparseLemmas.{AreWithin-wider, renewed-none}
use Rattle.cps_chunk.proofs.WalkLemmas.{lengths-set}
use Rattle.cps_live.proofs.RenewedLemmas.{left-next}
use Rattle.cps_live.proofs.ChunkListLemmas.{same-read, line-next, line-all, line-first, marked-next}
use Rattle.cps_live.proofs.chunk_list.mark_all.Goals as goal
use Rattle.cps_live.proofs.chunk_list.mark_all.Goals.{then-loop-chunk-test+else-new-line, else-loop-chunk-test}

pub loop-new-init : goal.loop-new-init
loop-new-init c = record {
  line = refl;
  left = c.requires;
  chunks = λ ts s. subst (λ (us : List Trace). AreChunksOf c.args.hashing c.args.chunks.now.items us) (sym (renewed-none 0 ts)) s;
  lengths = refl;
  room = refl;
}

pub loop-chunk-init : goal.loop-chunk-init
loop-chunk-init c =
    let left = left-next c.loop-new.line (sum (lengths_of c.args.chunks.now.items)) c.loop-new.new-index c.args.news.now c.new-item.result c.loop-new-test.true c.new-item.is c.loop-new.invariant.left in
    record { line = c.loop-new.invariant.line; before = left.0 }

pub loop-chunk-smaller : goal.loop-chunk-smaller
loop-chunk-smaller c = omega arith

pub loop-chunk-preserved : goal.loop-chunk-preserved
loop-chunk-preserved c =
    let cs = c.args.chunks.now.items in
    let ds = c.loop-new.chunks.items in
    let k = c.loop-chunk.chunk in
    let here = c.index.result.now in
    let again = c.index-in-loop-chunk.result.now in
    let some : k < length ds = omega (arith, c.loop-new.chunks.ok.0) in
    let is : here ≡ get_or ds k here = search rules in
    let too : again ≡ get_or ds k again = search rules in
    let same = same-read ds k here again some is too in
    record {
      line = line-next cs ds c.loop-new.invariant.lengths k c.loop-chunk.line again some too c.loop-chunk.invariant.line;
      before = omega (arith, ap (λ (d : Chunk). d.lines) same, c.if-new-line.true, c.loop-chunk.invariant.before);
    }

pub index_mut-requires : goal.index_mut-requires
index_mut-requires c =
    let cs = c.args.chunks.now.items in
    let ds = c.loop-new.chunks.items in
    let b = sum (lengths_of cs) in
    let left = left-next c.loop-new.line b c.loop-new.new-index c.args.news.now c.new-item.result c.loop-new-test.true c.new-item.is c.loop-new.invariant.left in
    elim c.loop-chunk-test.branch [
      | then-loop-chunk-test+else-new-line w ↦ omega (arith, w.loop-chunk-test.true)
      | else-loop-chunk-test w ↦
          let past : length ds ≤ c.loop-chunk.chunk = omega (arith, c.loop-new.chunks.ok.0, w.loop-chunk-test.false) in
          let all = line-all cs ds c.loop-new.invariant.lengths c.loop-chunk.chunk c.loop-chunk.line past c.loop-chunk.invariant.line in
          absurd (omega (arith, all, left.1, c.loop-chunk.invariant.before))
    ]

pub loop-new-preserved : goal.loop-new-preserved
loop-new-preserved c =
    let cs = c.args.chunks.now.items in
    let ds = c.loop-new.chunks.items in
    let i = c.loop-new.new-index in
    let k = c.loop-chunk.chunk in
    let line = c.loop-chunk.line in
    let new = c.new-item.result in
    let b = sum (lengths_of cs) in
    let old = c.index_mut.result.now in
    let made = c.mark.new.self in
    let left = left-next c.loop-new.line b i c.args.news.now new c.loop-new-test.true c.new-item.is c.loop-new.invariant.left in
    let is : old ≡ get_or ds k old = c.index_mut.ensures.value in
    let ends : (k < length ds) × (new.at < line + old.lines) =
    elim c.loop-chunk-test.branch [
      | then-loop-chunk-test+else-new-line w ↦
          let some : k < length ds = omega (arith, c.loop-new.chunks.ok.0, w.loop-chunk-test.true) in
          let here = w.index.result.now in
          let too : here ≡ get_or ds k here = search rules in
          let same = same-read ds k here old some too is in
          (some, omega (arith, ap (λ (d : Chunk). d.lines) same, w.if-new-line.false, c.loop-chunk.invariant.before))
      | else-loop-chunk-test w ↦
          let past : length ds ≤ k = omega (arith, c.loop-new.chunks.ok.0, w.loop-chunk-test.false) in
          let all = line-all cs ds c.loop-new.invariant.lengths k line past c.loop-chunk.invariant.line in
          absurd (omega (arith, all, left.1, c.loop-chunk.invariant.before))
    ] in
    let first = line-first cs ds c.loop-new.invariant.lengths k line c.loop-chunk.invariant.line in
    record {
      line = c.loop-chunk.invariant.line;
      left = AreWithin-wider (suc new.at) b line b (drop (i + 1) c.args.news.now) (omega (arith, c.loop-chunk.invariant.before)) (omega arith) left.2;
      chunks =
          λ ts s. marked-next c.args.hashing ds c.args.news.now b i k line new old made ts c.loop-new-test.true c.new-item.is c.requires ends.0 is c.mark.ensures.lines c.mark.ensures.chunk first
          c.loop-chunk.invariant.before ends.1 (c.loop-new.invariant.chunks ts s);
      lengths = lengths-set c.args.hashing ds k old made ends.0 is c.mark.ensures.lines ∙ c.loop-new.invariant.lengths;
      room = c.loop-new.invariant.room;
    }

pub returns-clause-chunks : goal.returns-clause-chunks
returns-clause-chunks c ts s =
    let all = take_all c.loop-new.new-index c.args.news.now c.loop-new-test.false in
    subst (λ (news : List (SparseItem Trace)). AreChunksOf c.args.hashing c.loop-new.chunks.items (renewed 0 news ts)) all (c.loop-new.invariant.chunks ts s)

pub returns-clause-lengths : goal.returns-clause-lengths
returns-clause-lengths c = c.loop-new.invariant.lengths
