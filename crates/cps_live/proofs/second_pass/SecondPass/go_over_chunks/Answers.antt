use Rattle.std.proofs.Common.{arith, rules, ◌≡◌, ◌+◌, ◌<◌, [], length, get_or, sym, ap, ◌∙◌}
use Rattle.std.specs.Prelude.{sum}
use Rattle.std.proofs.lemmas.Bool.{eqb-true}
use Rattle.std.proofs.lemmas.List.{nil_from_length}
use Rattle.cps_state.specs.Course.{Trace}
use Rattle.cps_final.specs.Agreeing.{same_named}
use Rattle.cps_chunk.specs.Code.Chunk.{lengths_of}
use Rattle.cps_final.specs.Code.Ends.{was_of, now_of}
use Rattle.cps_live.proofs.CountLemmas.{steps-none, counts-next, counts-fail, looks-next}
use Rattle.cps_live.proofs.NamesReadLemmas.{all-stretch}
use Rattle.cps_live.proofs.SecondPassLemmas.{each-made, goes-none}
use Rattle.cps_live.proofs.PartLemmas.{next-within}
use Rattle.cps_live.proofs.ChunkLoopLemmas.{next-chunk, stops-at, here-exact, here-end, here-chunk, here-within, here-count, here-looks, here-over, here-chunks, here-lengths, here-all}
use Rattle.cps_live.proofs.second_pass.SecondPass.go_over_chunks.Goals as goal

-- ---- nothing is new, and nothing differs

pub returns-then-is_none-clause-over : goal.returns-then-is_none-clause-over
returns-then-is_none-clause-over c =
    let pass = c.args.self.now in
    let news = c.args.news.now in
    let end = c.args.at + sum (lengths_of c.args.chunks.now) in
    let empty : news ≡ [] = nil_from_length news (eqb-true (length news) 0 (sym c.is_empty.ensures ∙ c.if-is_empty.true)) in
    let all = c.requires.exact.known (sym c.is_none.ensures ∙ c.if-is_none.true) in
    let same = all-stretch (λ (t : Trace). same_named (was_of pass.redo.ends) (now_of pass.redo.ends) t.items) c.args.at end pass.base.traces.now all in
    goes-none pass c.args.at end news
    (each-made pass c.args.at end news empty same)

pub returns-then-is_none-clause-steps : goal.returns-then-is_none-clause-steps
returns-then-is_none-clause-steps c =
    let pass = c.args.self.now in
    let news = c.args.news.now in
    let end = c.args.at + sum (lengths_of c.args.chunks.now) in
    let empty : news ≡ [] = nil_from_length news (eqb-true (length news) 0 (sym c.is_empty.ensures ∙ c.if-is_empty.true)) in
    let all = c.requires.exact.known (sym c.is_none.ensures ∙ c.if-is_none.true) in
    let same = all-stretch (λ (t : Trace). same_named (was_of pass.redo.ends) (now_of pass.redo.ends) t.items) c.args.at end pass.base.traces.now all in
    steps-none tt c.args.work.now _
    (ap length (each-made pass c.args.at end news empty same))

-- ---- the next chunk

pub overflow_add-end : goal.overflow_add-end
overflow_add-end c =
    let ds = c.loop-chunk.chunks in
    let i = c.loop-chunk.chunk-index in
    let chunk = get_or ds i c.chunk-item.result in
    let there : i < length ds = omega arith in
    let le = next-within c.args.self.now.base c.args.at c.args.chunks.now ds c.loop-chunk.invariant.lengths i c.loop-chunk.at chunk there (ap (get_or ds i) c.chunk-item.is)
    c.loop-chunk.invariant.place in
    first_of (search rules, omega (arith, le, c.requires.chunks.room))

pub go_over_chunk-requires-clause-exact : goal.go_over_chunk-requires-clause-exact
go_over_chunk-requires-clause-exact c =
    let on = c.loop-chunk.invariant in
    let there : c.loop-chunk.chunk-index < length c.loop-chunk.chunks = omega arith in
    let h = next-chunk c.chunk-item.result c.requires.exact c.requires.chunks.within there c.chunk-item.is on.place on.over on.chunks on.lengths
    c.split_before.ensures.before c.split_before.ensures.from in
    here-exact h

pub go_over_chunk-requires-clause-within : goal.go_over_chunk-requires-clause-within
go_over_chunk-requires-clause-within c =
    let on = c.loop-chunk.invariant in
    let there : c.loop-chunk.chunk-index < length c.loop-chunk.chunks = omega arith in
    let h = next-chunk c.chunk-item.result c.requires.exact c.requires.chunks.within there c.chunk-item.is on.place on.over on.chunks on.lengths
    c.split_before.ensures.before c.split_before.ensures.from in
    here-end h

pub go_over_chunk-requires-clause-chunk : goal.go_over_chunk-requires-clause-chunk
go_over_chunk-requires-clause-chunk c =
    let on = c.loop-chunk.invariant in
    let there : c.loop-chunk.chunk-index < length c.loop-chunk.chunks = omega arith in
    let h = next-chunk c.chunk-item.result c.requires.exact c.requires.chunks.within there c.chunk-item.is on.place on.over on.chunks on.lengths
    c.split_before.ensures.before c.split_before.ensures.from in
    here-chunk h

pub go_over_chunk-requires-clause-news : goal.go_over_chunk-requires-clause-news
go_over_chunk-requires-clause-news c =
    let on = c.loop-chunk.invariant in
    let there : c.loop-chunk.chunk-index < length c.loop-chunk.chunks = omega arith in
    let h = next-chunk c.chunk-item.result c.requires.exact c.requires.chunks.within there c.chunk-item.is on.place on.over on.chunks on.lengths
    c.split_before.ensures.before c.split_before.ensures.from in
    here-within h

pub returns-in_err-go_over_chunk-clause-chunks : goal.returns-in_err-go_over_chunk-clause-chunks
returns-in_err-go_over_chunk-clause-chunks c =
    let on = c.loop-chunk.invariant in
    let there : c.loop-chunk.chunk-index < length c.loop-chunk.chunks = omega arith in
    let h = next-chunk c.chunk-item.result c.requires.exact c.requires.chunks.within there c.chunk-item.is on.place on.over on.chunks on.lengths
    c.split_before.ensures.before c.split_before.ensures.from in
    here-all h c.go_over_chunk.ensures.chunk

pub returns-in_err-go_over_chunk-clause-steps : goal.returns-in_err-go_over_chunk-clause-steps
returns-in_err-go_over_chunk-clause-steps c =
    let on = c.loop-chunk.invariant in
    let there : c.loop-chunk.chunk-index < length c.loop-chunk.chunks = omega arith in
    let h = next-chunk c.chunk-item.result c.requires.exact c.requires.chunks.within there c.chunk-item.is on.place on.over on.chunks on.lengths
    c.split_before.ensures.before c.split_before.ensures.from in
    let most = counts-fail c.args.work.now c.loop-chunk.work c.go_over_chunk.new.work _ _ _ _ _ _ _ _ (here-count h) (here-looks h) c.loop-chunk.invariant.counts
    c.go_over_chunk.ensures.looked c.go_over_chunk.ensures.steps in
    record { ones = search rules; twos = search rules; ones_least = most.ones_least; twos_least = most.twos_least; ones_most = most.ones_most; twos_most = most.twos_most }

pub returns-in_err-go_over_chunk-clause-looked : goal.returns-in_err-go_over_chunk-clause-looked
returns-in_err-go_over_chunk-clause-looked c =
    let on = c.loop-chunk.invariant in
    let there : c.loop-chunk.chunk-index < length c.loop-chunk.chunks = omega arith in
    let h = next-chunk c.chunk-item.result c.requires.exact c.requires.chunks.within there c.chunk-item.is on.place on.over on.chunks on.lengths
    c.split_before.ensures.before c.split_before.ensures.from in
    looks-next c.args.work.now c.loop-chunk.work c.go_over_chunk.new.work _ _ _ _ _ _ _ _ (here-count h) (here-looks h) c.loop-chunk.invariant.counts c.go_over_chunk.ensures.looked

pub loop-chunk-preserved : goal.loop-chunk-preserved
loop-chunk-preserved c =
    let on = c.loop-chunk.invariant in
    let there : c.loop-chunk.chunk-index < length c.loop-chunk.chunks = omega arith in
    let h = next-chunk c.chunk-item.result c.requires.exact c.requires.chunks.within there c.chunk-item.is on.place on.over on.chunks on.lengths
    c.split_before.ensures.before c.split_before.ensures.from in
    record {
      place = stops-at h;
      over = here-over h c.in_ok-go_over_chunk.ensures.over;
      chunks = here-chunks h c.in_ok-go_over_chunk.ensures.chunk;
      lengths = here-lengths h c.in_ok-go_over_chunk.ensures.chunk;
      counts = counts-next c.args.work.now c.loop-chunk.work c.go_over_chunk.new.work _ _ _ _ _ _ _ _ (here-count h) (here-looks h) c.loop-chunk.invariant.counts
          c.in_ok-go_over_chunk.ensures.looked tt c.in_ok-go_over_chunk.ensures.steps;
    }
