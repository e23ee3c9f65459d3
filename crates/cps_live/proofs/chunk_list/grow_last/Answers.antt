use Rattle.std.proofs.Common.{arith, ◌≡◌, ◌+◌, ◌-◌, ◌<◌, ◌∙◌, ◌∷◌, ◌++◌, [], List, length, ap, refl, subst, sym}
use Rattle.std.specs.Prelude.{sum}
use Rattle.std.proofs.lemmas.List.{length-map}
use Rattle.cps_state.specs.Course.{Trace}
use Rattle.cps_chunk.specs.Division.{IsDivision, full}
use Rattle.cps_chunk.specs.Code.Chunk.{AreChunksOf, IsChunkOf, lengths_of}
use Rattle.cps_chunk.specs.declared.chunk.Chunk.{Chunk}
use Rattle.cps_live.proofs.AppendLemmas.{IsAtEnd, begins, begins-first, length-at}
use Rattle.cps_live.proofs.ChunkListLemmas.{chunks-begun, chunks-grown, lengths-begun, lengths-grown, same-read}
use Rattle.cps_live.proofs.chunk_list.grow_last.Goals as goal
use Rattle.cps_live.proofs.chunk_list.grow_last.Goals.{else-count-gt0-via-then-count-gt0+else-index-lt-FULL, else-count-gt0-via-else-count-gt0}

pub returns-then-index-lt-FULL-clause-chunks : goal.returns-then-index-lt-FULL-clause-chunks
returns-then-index-lt-FULL-clause-chunks c =
    let cs = c.args.chunks.now.items in
    let last : c.len-count.result - 1 + 1 ≡ length cs = omega (arith, c.len-count.ensures, c.args.chunks.now.ok.0, c.if-count-gt0.true) in
    chunks-grown cs (c.len-count.result - 1) last c.index_mut.result.now c.index_mut.ensures.value c.args.hashing c.grow.new.self c.args.trace.now c.grow.ensures.chunk

pub returns-then-index-lt-FULL-clause-lengths : goal.returns-then-index-lt-FULL-clause-lengths
returns-then-index-lt-FULL-clause-lengths c =
    let cs = c.args.chunks.now.items in
    let k = c.len-count.result - 1 in
    let last : k + 1 ≡ length cs = omega (arith, c.len-count.ensures, c.args.chunks.now.ok.0, c.if-count-gt0.true) in
    let one = same-read cs k c.index.result.now c.index_mut.result.now (omega (arith, last)) c.index.ensures c.index_mut.ensures.value in
    let small : c.index_mut.result.now.lines < full = omega (arith, c.if-index-lt-FULL.true, ap (λ (x : Chunk). x.lines) one) in
    lengths-grown cs k last c.index_mut.result.now c.index_mut.ensures.value c.grow.new.self c.requires.divided small c.grow.ensures.lines

pub returns-clause-chunks : goal.returns-clause-chunks
returns-clause-chunks c ts are =
    let chunk = subst (λ (us : List Trace). IsChunkOf c.args.hashing us c.of.result) c.from_ref.ensures.value c.of.ensures in
    subst (λ (cs : List Chunk). AreChunksOf c.args.hashing cs (ts ++ c.args.trace.now ∷ [])) (sym c.push_reserved.ensures.items)
    (chunks-begun c.args.hashing c.args.chunks.now.items c.of.result c.args.trace.now chunk ts are)

pub returns-clause-lengths : goal.returns-clause-lengths
returns-clause-lengths c =
    let cs = c.args.chunks.now.items in
    let ls = lengths_of cs in
    let count = sum ls in
    let division : IsDivision count ls = record { chunks = c.requires.divided; total = refl } in
    let long : length ls ≡ length cs = length-map cs (λ (chunk : Chunk). chunk.lines) in
    let chunks : c.len-count.result ≡ length cs = omega (arith, c.len-count.ensures, c.args.chunks.now.ok.0) in
    let here : IsAtEnd ls count (length ls) 0 =
    elim c.else-count-gt0.branch [
      | else-count-gt0-via-then-count-gt0+else-index-lt-FULL w ↦
          let k = c.len-count.result - 1 in
          let chunk = w.index.result.now in
          let lines = length-at cs k chunk (omega (arith, chunks, w.if-count-gt0.true)) w.index.ensures in
          begins ls k chunk.lines count (omega (arith, long, chunks, w.if-count-gt0.true)) lines division (omega (arith, w.if-index-lt-FULL.false))
      | else-count-gt0-via-else-count-gt0 w ↦ begins-first ls count (omega (arith, long, chunks, w.if-count-gt0.false)) division
    ] in
    let one : c.of.result.lines ≡ 1 = sym c.of.ensures.lines ∙ ap length c.from_ref.ensures.value in
    ap lengths_of c.push_reserved.ensures.items ∙ lengths-begun cs c.of.result here one
