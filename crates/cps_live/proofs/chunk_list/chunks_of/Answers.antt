use Rattle.std.proofs.Common.{arith, refl, ◌≡◌, ℕ, ◌+◌, ◌∙◌, List, [], length, take, subst, sym, ap}
use Rattle.std.specs.Prelude.{sum}
use Rattle.std.proofs.lemmas.List.{nil_from_length, take_all, length-map, length-take-le}
use Rattle.cps_chunk.specs.declared.chunk.Chunk.{Chunk}
use Rattle.cps_chunk.specs.Code.Chunk.{AreChunksOf, lengths_of}
use Rattle.cps_live.proofs.ChunkListLemmas.{next-within, left-behind, chunks-next, lengths-push}
use Rattle.cps_live.proofs.chunk_list.chunks_of.Goals as goal

pub loop-lines-init : goal.loop-lines-init
loop-lines-init c =
    let none : c.args.room.items ≡ [] = nil_from_length c.args.room.items (omega (arith, c.args.room.ok.0, c.requires.empty)) in
    record {
      chunks = subst (λ (cs : List Chunk). AreChunksOf c.args.hashing cs []) (sym none) refl;
      lengths = ap lengths_of none;
      left = refl;
      room = refl;
    }

pub split_at-requires : goal.split_at-requires
split_at-requires c =
    next-within c.args.lengths.now c.loop-lines.lines-index c.loop-lines-test.true c.args.traces.now c.loop-lines.left.now c.loop-lines.invariant.left c.requires.within

pub push_reserved-requires : goal.push_reserved-requires
push_reserved-requires c =
    let so_far = ap length c.loop-lines.invariant.lengths in
    let long = length-map c.loop-lines.chunks.items (λ (d : Chunk). d.lines) in
    let taken = length-take-le c.loop-lines.lines-index c.args.lengths.now (omega arith) in
    omega (arith, so_far, long, taken, c.loop-lines.chunks.ok.0, c.loop-lines.invariant.room, c.requires.room)

pub loop-lines-preserved : goal.loop-lines-preserved
loop-lines-preserved c =
    let ns = c.args.lengths.now in
    let i = c.loop-lines.lines-index in
    let lt = c.loop-lines-test.true in
    let ts = c.args.traces.now in
    let left = c.loop-lines.left.now in
    let is = c.loop-lines.invariant.left in
    let within = c.requires.within in
    let here = c.split_at.result.0.now in
    let cs = c.loop-lines.chunks.items in
    let front = c.split_at.ensures.front in
    let pushed = c.push_reserved.ensures.items in
    record {
      chunks =
          subst (λ (ds : List Chunk). AreChunksOf c.args.hashing ds (take (sum (take (i + 1) ns)) ts)) (sym pushed)
          (chunks-next ns i lt ts left is within here front c.of.result c.args.hashing c.of.ensures cs c.loop-lines.invariant.chunks);
      lengths = ap lengths_of pushed ∙ lengths-push ns i lt ts left is within here front c.of.result c.args.hashing c.of.ensures cs c.loop-lines.invariant.lengths;
      left = left-behind ns i lt ts left is within c.split_at.result.1.now c.split_at.ensures.back;
      room = c.push_reserved.ensures.capacity ∙ c.loop-lines.invariant.room;
    }

pub returns-clause-chunks : goal.returns-clause-chunks
returns-clause-chunks c =
    let all = take_all c.loop-lines.lines-index c.args.lengths.now c.loop-lines-test.false in
    subst (λ (ns : List ℕ). AreChunksOf c.args.hashing c.loop-lines.chunks.items (take (sum ns) c.args.traces.now)) all c.loop-lines.invariant.chunks

pub returns-clause-lengths : goal.returns-clause-lengths
returns-clause-lengths c = c.loop-lines.invariant.lengths ∙ take_all c.loop-lines.lines-index c.args.lengths.now c.loop-lines-test.false
