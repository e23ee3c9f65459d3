use Rattle.std.proofs.Common.{arith, refl, ◌≡◌, ◌∙◌, List, [], length, take, drop, subst, sym, ap}
use Rattle.std.proofs.lemmas.List.{nil_from_length, take_all, drop_all, length-map, length-take-le}
use Rattle.cps_chunk.specs.declared.exchange.RecutChunk.{RecutChunk}
use Rattle.cps_chunk.specs.Code.Pieces.{lines_of}
use Rattle.cps_chunk.specs.declared.chunk.Chunk.{Chunk}
use Rattle.cps_chunk.specs.Code.Chunk.{lengths_of}
use Rattle.cps_chunk.proofs.MovedChunkLemmas.{StandBefore, all-there, next-there, next-old, left-there, next-before, next-lengths, all-before}
use Rattle.cps_chunk.proofs.moved.chunks_moved.Goals as goal

pub loop-piece-init : goal.loop-piece-init
loop-piece-init c =
    let none : c.args.room.items ≡ [] = nil_from_length c.args.room.items (omega (arith, c.args.room.ok.0, c.requires.empty)) in
    record {
      before = subst (λ (cs : List Chunk). StandBefore c.args.hashing cs c.args.traces.now c.args.traces.now) (sym none) (λ ds are. are);
      there = all-there c.args.hashing c.args.olds.items c.args.pieces.now c.args.traces.now c.requires.moved;
      lengths = ap lengths_of none;
      room = refl;
    }

pub split_at-requires : goal.split_at-requires
split_at-requires c =
    (next-there c.args.hashing c.loop-piece.olds.items c.args.pieces.now c.loop-piece.piece-index c.loop-piece-test.true c.loop-piece.left.now c.loop-piece.invariant.there).0

pub old_or_new-chunk-requires : goal.old_or_new-chunk-requires
old_or_new-chunk-requires c =
    next-old c.args.hashing c.loop-piece.olds.items c.args.pieces.now c.loop-piece.piece-index c.loop-piece-test.true c.loop-piece.left.now c.loop-piece.invariant.there
    c.split_at.result.0.now c.split_at.result.1.now c.split_at.ensures.front c.split_at.ensures.back

pub push_reserved-requires : goal.push_reserved-requires
push_reserved-requires c =
    let so_far = ap length c.loop-piece.invariant.lengths in
    let long = length-map c.loop-piece.chunks.items (λ (d : Chunk). d.lines) in
    let lines = length-map (take c.loop-piece.piece-index c.args.pieces.now) (λ (p : RecutChunk). p.lines) in
    let taken = length-take-le c.loop-piece.piece-index c.args.pieces.now (omega arith) in
    omega (arith, so_far, long, lines, taken, c.loop-piece.chunks.ok.0, c.loop-piece.invariant.room, c.requires.room)

pub loop-piece-preserved : goal.loop-piece-preserved
loop-piece-preserved c =
    let olds = c.loop-piece.olds.items in
    let ps = c.args.pieces.now in
    let i = c.loop-piece.piece-index in
    let lt = c.loop-piece-test.true in
    let left = c.loop-piece.left.now in
    let there = c.loop-piece.invariant.there in
    let here = c.split_at.result.0.now in
    let behind = c.split_at.result.1.now in
    let front = c.split_at.ensures.front in
    let back = c.split_at.ensures.back in
    let made = c.old_or_new-chunk.result in
    let is = c.old_or_new-chunk.ensures.chunk in
    let cs = c.loop-piece.chunks.items in
    let ts = c.args.traces.now in
    let pushed = c.push_reserved.ensures.items in
    record {
      before =
          subst (λ (ds : List Chunk). StandBefore c.args.hashing ds behind ts) (sym pushed)
          (next-before c.args.hashing olds ps i lt left there here behind front back made is cs ts c.loop-piece.invariant.before);
      there = left-there c.args.hashing olds ps i lt left there here behind front back c.old_or_new-chunk.new.olds.items c.old_or_new-chunk.ensures.olds;
      lengths = ap lengths_of pushed ∙ next-lengths c.args.hashing olds ps i lt left there here behind front back made is cs c.loop-piece.invariant.lengths;
      room = c.push_reserved.ensures.capacity ∙ c.loop-piece.invariant.room;
    }

pub returns-clause-chunks : goal.returns-clause-chunks
returns-clause-chunks c =
    let none : drop c.loop-piece.piece-index c.args.pieces.now ≡ [] = drop_all c.loop-piece.piece-index c.args.pieces.now c.loop-piece-test.false in
    all-before c.args.hashing c.loop-piece.chunks.items c.loop-piece.olds.items (drop c.loop-piece.piece-index c.args.pieces.now) c.loop-piece.left.now c.args.traces.now none
    c.loop-piece.invariant.there c.loop-piece.invariant.before

pub returns-clause-lengths : goal.returns-clause-lengths
returns-clause-lengths c = c.loop-piece.invariant.lengths ∙ ap lines_of (take_all c.loop-piece.piece-index c.args.pieces.now c.loop-piece-test.false)
