use Rattle.std.proofs.Common.{arith, rules, ◌≡◌, ℕ, ◌+◌, ◌<◌, ◌≤◌, List, length, get_or, refl, ap, sym, subst, ◌∙◌}
use Rattle.std.specs.Prelude.{sum}
use Rattle.cps_state.specs.Course.{Trace}
use Rattle.cps_chunk.specs.Code.Chunk.{lengths_of}
use Rattle.cps_chunk.specs.Code.Walk.{stretch}
use Rattle.cps_chunk.specs.declared.sparse.SparseItem.{SparseItem}
use Rattle.cps_chunk.specs.Sparse.{AreWithin, renewed}
use Rattle.cps_chunk.specs.Code.Storing.{StoresAlso}
use Rattle.cps_chunk.proofs.WalkLemmas.{same-long}
use Rattle.cps_live.proofs.PartLemmas.{chunk-here, chunks-here, lengths-still, next-place, next-within}
use Rattle.cps_live.proofs.StoreLemmas.{all-stand, all-stretch-of, all-taken, on-all, on-next, on-none}
use Rattle.cps_live.proofs.StretchLemmas.{before-within}
use Rattle.cps_live.proofs.storage.store_run.Goals as goal

pub loop-chunk-init : goal.loop-chunk-init
loop-chunk-init c =
    let run = c.args.run in
    record {
      place = refl;
      begun = omega arith;
      most = c.requires.run.ordered;
      far = λ k none most. omega (arith, none);
      stores = on-none c.args.storage.now c.args.base.traces.now run.from run.to run.news.now c.requires.run.news;
      chunks = all-stretch-of c.args.base c.args.chunks.now c.requires.chunks;
      lengths = refl;
    }

pub overflow_add-end : goal.overflow_add-end
overflow_add-end c =
    let base = c.args.base in
    let cs = c.args.chunks.now in
    let on = c.loop-chunk.invariant in
    let ds = c.loop-chunk.chunks in
    let i = c.loop-chunk.chunk-index in
    let at = c.loop-chunk.at in
    let chunk = get_or ds i c.chunk-item.result in
    let there : i < length ds = omega arith in
    let is = ap (get_or ds i) c.chunk-item.is in
    let le = next-within base 0 cs ds on.lengths i at chunk there is on.place in
    let all = all-stand base cs c.requires.chunks in
    first_of (search rules, omega (arith, le, all, c.requires.chunks.few))

pub store_part-requires-clause-within : goal.store_part-requires-clause-within
store_part-requires-clause-within c =
    let base = c.args.base in
    let cs = c.args.chunks.now in
    let on = c.loop-chunk.invariant in
    let ds = c.loop-chunk.chunks in
    let i = c.loop-chunk.chunk-index in
    let at = c.loop-chunk.at in
    let chunk = get_or ds i c.chunk-item.result in
    let there : i < length ds = omega arith in
    let is = ap (get_or ds i) c.chunk-item.is in
    let le = next-within base 0 cs ds on.lengths i at chunk there is on.place in
    let all = all-stand base cs c.requires.chunks in
    omega (arith, le, all)

pub store_part-requires-clause-chunk : goal.store_part-requires-clause-chunk
store_part-requires-clause-chunk c =
    let base = c.args.base in
    let cs = c.args.chunks.now in
    let on = c.loop-chunk.invariant in
    let ds = c.loop-chunk.chunks in
    let i = c.loop-chunk.chunk-index in
    let at = c.loop-chunk.at in
    let chunk = get_or ds i c.chunk-item.result in
    let there : i < length ds = omega arith in
    let is = ap (get_or ds i) c.chunk-item.is in
    chunk-here base 0 cs ds on.lengths i at chunk there is on.place on.chunks

pub store_part-requires-clause-run : goal.store_part-requires-clause-run
store_part-requires-clause-run c =
    let on = c.loop-chunk.invariant in
    let run = c.args.run in
    let to = c.max-to.result in
    let more : c.loop-chunk.done ≤ to = omega (arith, c.max-to.ensures) in
    let most : to ≤ run.to = omega (arith, c.max-to.ensures, c.min.ensures, on.most) in
    record {
      ordered = more;
      within = omega (arith, most, c.requires.run.within);
      news = subst (λ (ns : List (SparseItem Trace)). AreWithin c.loop-chunk.done to ns) (sym c.split_before.ensures.before)
          (before-within to c.loop-chunk.done run.to c.loop-chunk.left.now more on.stores.within);
    }

pub returns-in_err-store_part-clause-chunks : goal.returns-in_err-store_part-clause-chunks
returns-in_err-store_part-clause-chunks c =
    let base = c.args.base in
    let cs = c.args.chunks.now in
    let on = c.loop-chunk.invariant in
    let ds = c.loop-chunk.chunks in
    let i = c.loop-chunk.chunk-index in
    let at = c.loop-chunk.at in
    let chunk = get_or ds i c.chunk-item.result in
    let there : i < length ds = omega arith in
    let is = ap (get_or ds i) c.chunk-item.is in
    let still = c.store_part.ensures.chunk in
    record {
      chunks = chunks-here base 0 cs ds on.lengths i at chunk there is on.place c.store_part.new.chunk still on.chunks;
      lengths = lengths-still base 0 cs ds on.lengths i at chunk there is on.place c.store_part.new.chunk still;
    }

pub loop-chunk-preserved : goal.loop-chunk-preserved
loop-chunk-preserved c =
    let base = c.args.base in
    let cs = c.args.chunks.now in
    let on = c.loop-chunk.invariant in
    let ds = c.loop-chunk.chunks in
    let i = c.loop-chunk.chunk-index in
    let at = c.loop-chunk.at in
    let chunk = get_or ds i c.chunk-item.result in
    let there : i < length ds = omega arith in
    let is = ap (get_or ds i) c.chunk-item.is in
    let le = next-within base 0 cs ds on.lengths i at chunk there is on.place in
    let all = all-stand base cs c.requires.chunks in
    let still = c.store_part.ensures.chunk in
    let run = c.args.run in
    let done = c.loop-chunk.done in
    let to = c.max-to.result in
    let more : done ≤ to = omega (arith, c.max-to.ensures) in
    let most : to ≤ run.to = omega (arith, c.max-to.ensures, c.min.ensures, on.most) in
    record {
      place = next-place base 0 cs ds on.lengths i at chunk there is on.place;
      begun = omega (arith, on.begun, more);
      most = most;
      far = λ k here within. omega (arith, here, within, c.max-to.ensures, c.min.ensures);
      stores = on-next c.args.storage.now base.traces.now run.from run.to run.news.now c.loop-chunk.storage c.store_part.new.storage done to c.loop-chunk.left.now
          c.split_before.result.0.now c.split_before.result.1.now on.begun more most c.requires.run.within c.split_before.ensures.before c.split_before.ensures.from on.stores
          c.in_ok-store_part.ensures.stores;
      chunks = chunks-here base 0 cs ds on.lengths i at chunk there is on.place c.store_part.new.chunk still on.chunks;
      lengths = lengths-still base 0 cs ds on.lengths i at chunk there is on.place c.store_part.new.chunk still;
    }

pub returns-clause-stores : goal.returns-clause-stores
returns-clause-stores c =
    let base = c.args.base in
    let cs = c.args.chunks.now in
    let on = c.loop-chunk.invariant in
    let run = c.args.run in
    let past : length c.loop-chunk.chunks ≤ c.loop-chunk.chunk-index = omega (arith, same-long cs c.loop-chunk.chunks on.lengths) in
    let whole = on.place ∙ ap (λ ns. 0 + sum ns) (all-taken cs c.loop-chunk.chunks on.lengths c.loop-chunk.chunk-index past) in
    let far : run.to ≤ c.loop-chunk.done = on.far run.to (omega (arith, whole, all-stand base cs c.requires.chunks, c.requires.run.within)) (omega arith) in
    on-all c.args.storage.now base.traces.now run.from run.to run.news.now c.loop-chunk.storage c.loop-chunk.done c.loop-chunk.left.now (omega (arith, far, on.most)) on.stores
