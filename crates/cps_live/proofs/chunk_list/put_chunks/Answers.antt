use Rattle.std.proofs.Common.{◌≡◌, ℕ, ◌-◌, ◌∙◌, List, length, subst, sym, ap, take, drop}
use Rattle.std.specs.Prelude.{sum}
use Rattle.std.proofs.lemmas.List.{take_rest}
use Rattle.cps_state.specs.Course.{Trace}
use Rattle.cps_chunk.specs.declared.chunk.Chunk.{Chunk}
use Rattle.cps_chunk.specs.Code.Chunk.{AreChunksOf, lengths_of}
use Rattle.cps_live.proofs.ChunkListLemmas.{chunks-recut, lengths-recut}
use Rattle.cps_live.proofs.chunk_list.put_chunks.Goals as goal

pub returns-clause-chunks : goal.returns-clause-chunks
returns-clause-chunks c =
    let cs = c.args.chunks.now.items in
    let cut = c.args.cut.now in
    let news = c.args.traces.now in
    let ds = c.chunks_of-news.result.items in
    let part = take (length news - cut.before) (drop cut.before news) in
    let whole : take (sum c.deref.result.now) part ≡ take (sum cut.lengths.items) (drop cut.before news) =
    ap (λ (ns : List ℕ). take (sum ns) part) c.deref.ensures.value ∙ ap (take (sum cut.lengths.items)) (take_rest news cut.before) in
    let made : AreChunksOf c.args.hashing ds (take (sum cut.lengths.items) (drop cut.before news)) =
    subst (λ (ts : List Trace). AreChunksOf c.args.hashing ds ts) whole c.chunks_of-news.ensures.chunks in
    subst (λ (es : List Chunk). AreChunksOf c.args.hashing es news) (sym c.put_at.ensures) (chunks-recut c.args.hashing cut cs c.requires.fits.0 news c.requires.fits.1 ds made)

pub returns-clause-lengths : goal.returns-clause-lengths
returns-clause-lengths c =
    let cs = c.args.chunks.now.items in
    let cut = c.args.cut.now in
    ap lengths_of c.put_at.ensures ∙ lengths-recut cut.start cut.end cs c.chunks_of-news.result.items cut.lengths.items (c.chunks_of-news.ensures.lengths ∙ c.deref.ensures.value)
