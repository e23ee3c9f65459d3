use Rattle.std.proofs.Common.{arith, rules, ◌+◌, ◌<◌, ◌≤◌, List, length, get_or, ap, sym, subst, ◌∙◌}
use Rattle.std.specs.Prelude.{sum}
use Rattle.cps_state.specs.Course.{Trace}
use Rattle.cps_chunk.specs.Code.Chunk.{lengths_of}
use Rattle.cps_chunk.specs.declared.sparse.SparseItem.{SparseItem}
use Rattle.cps_chunk.specs.Sparse.{AreWithin}
use Rattle.cps_chunk.proofs.WalkLemmas.{same-long}
use Rattle.cps_live.proofs.PartLemmas.{chunk-here, chunks-here, lengths-still, next-place, next-within}
use Rattle.cps_live.proofs.StoreLemmas.{all-taken, on-all, on-next}
use Rattle.cps_live.proofs.StretchLemmas.{before-within}
use Rattle.cps_live.proofs.storage.store_chunks.Goals as goal

pub overflow_add-end : goal.overflow_add-end
overflow_add-end c =
    let on = c.loop-chunk.invariant in
    let ds = c.loop-chunk.chunks in
    let i = c.loop-chunk.chunk-index in
    let at = c.loop-chunk.at in
    let chunk = get_or ds i c.chunk-item.result in
    let there : i < length ds = omega arith in
    let is = ap (get_or ds i) c.chunk-item.is in
    let le = next-within c.args.base c.args.at c.args.chunks.now ds on.lengths i at chunk there is on.place in
    first_of (search rules, omega (arith, le, c.requires.chunks.room))

pub store_chunk-requires-clause-within : goal.store_chunk-requires-clause-within
store_chunk-requires-clause-within c =
    let on = c.loop-chunk.invariant in
    let ds = c.loop-chunk.chunks in
    let i = c.loop-chunk.chunk-index in
    let at = c.loop-chunk.at in
    let chunk = get_or ds i c.chunk-item.result in
    let there : i < length ds = omega arith in
    let is = ap (get_or ds i) c.chunk-item.is in
    let le = next-within c.args.base c.args.at c.args.chunks.now ds on.lengths i at chunk there is on.place in
    omega (arith, le, c.requires.chunks.within)

pub store_chunk-requires-clause-chunk : goal.store_chunk-requires-clause-chunk
store_chunk-requires-clause-chunk c =
    let on = c.loop-chunk.invariant in
    let ds = c.loop-chunk.chunks in
    let i = c.loop-chunk.chunk-index in
    let at = c.loop-chunk.at in
    let chunk = get_or ds i c.chunk-item.result in
    let there : i < length ds = omega arith in
    let is = ap (get_or ds i) c.chunk-item.is in
    chunk-here c.args.base c.args.at c.args.chunks.now ds on.lengths i at chunk there is on.place on.chunks

pub store_chunk-requires-clause-news : goal.store_chunk-requires-clause-news
store_chunk-requires-clause-news c =
    let on = c.loop-chunk.invariant in
    let at = c.loop-chunk.at in
    let chunk = get_or c.loop-chunk.chunks c.loop-chunk.chunk-index c.chunk-item.result in
    let end = c.args.at + sum (lengths_of c.args.chunks.now) in
    subst (λ (ns : List (SparseItem Trace)). AreWithin at (at + chunk.lines) ns) (sym c.split_before.ensures.before)
    (before-within (at + chunk.lines) at end c.loop-chunk.left.now (omega arith) on.stores.within)

pub returns-in_err-store_chunk-clause-chunks : goal.returns-in_err-store_chunk-clause-chunks
returns-in_err-store_chunk-clause-chunks c =
    let on = c.loop-chunk.invariant in
    let ds = c.loop-chunk.chunks in
    let i = c.loop-chunk.chunk-index in
    let at = c.loop-chunk.at in
    let chunk = get_or ds i c.chunk-item.result in
    let there : i < length ds = omega arith in
    let is = ap (get_or ds i) c.chunk-item.is in
    let still = c.store_chunk.ensures.chunk in
    record {
      chunks = chunks-here c.args.base c.args.at c.args.chunks.now ds on.lengths i at chunk there is on.place c.store_chunk.new.chunk still on.chunks;
      lengths = lengths-still c.args.base c.args.at c.args.chunks.now ds on.lengths i at chunk there is on.place c.store_chunk.new.chunk still;
    }

pub loop-chunk-preserved : goal.loop-chunk-preserved
loop-chunk-preserved c =
    let on = c.loop-chunk.invariant in
    let ds = c.loop-chunk.chunks in
    let i = c.loop-chunk.chunk-index in
    let at = c.loop-chunk.at in
    let chunk = get_or ds i c.chunk-item.result in
    let there : i < length ds = omega arith in
    let is = ap (get_or ds i) c.chunk-item.is in
    let still = c.store_chunk.ensures.chunk in
    let m = at + chunk.lines in
    let end = c.args.at + sum (lengths_of c.args.chunks.now) in
    let le : m ≤ end = next-within c.args.base c.args.at c.args.chunks.now ds on.lengths i at chunk there is on.place in
    let from : c.args.at ≤ at = omega (arith, on.place) in
    record {
      place = next-place c.args.base c.args.at c.args.chunks.now ds on.lengths i at chunk there is on.place;
      stores = on-next c.args.storage.now c.args.base.traces.now c.args.at end c.args.news.now c.loop-chunk.storage c.store_chunk.new.storage at m c.loop-chunk.left.now
          c.split_before.result.0.now c.split_before.result.1.now from (omega arith) le c.requires.chunks.within c.split_before.ensures.before c.split_before.ensures.from on.stores
          c.in_ok-store_chunk.ensures.stores;
      chunks = chunks-here c.args.base c.args.at c.args.chunks.now ds on.lengths i at chunk there is on.place c.store_chunk.new.chunk still on.chunks;
      lengths = lengths-still c.args.base c.args.at c.args.chunks.now ds on.lengths i at chunk there is on.place c.store_chunk.new.chunk still;
    }

pub returns-clause-stores : goal.returns-clause-stores
returns-clause-stores c =
    let on = c.loop-chunk.invariant in
    let past : length c.loop-chunk.chunks ≤ c.loop-chunk.chunk-index = omega (arith, same-long c.args.chunks.now c.loop-chunk.chunks on.lengths) in
    on-all c.args.storage.now c.args.base.traces.now c.args.at (c.args.at + sum (lengths_of c.args.chunks.now)) c.args.news.now c.loop-chunk.storage c.loop-chunk.at c.loop-chunk.left.now
    (on.place ∙ ap (λ ns. c.args.at + sum ns) (all-taken c.args.chunks.now c.loop-chunk.chunks on.lengths c.loop-chunk.chunk-index past)) on.stores
