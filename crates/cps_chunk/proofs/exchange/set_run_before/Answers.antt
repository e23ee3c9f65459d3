use Rattle.std.proofs.Common.{◌≡◌, ◌+◌, ◌-◌, ◌<◌, ◌++◌, reverse, subst, refl, sym, ap, ◌∙◌, [], ◌∷◌, length, get_or, take, drop, arith}
use Rattle.std.specs.Prelude.{if◌then◌else◌, nat_lt, sum}
use Rattle.std.proofs.lemmas.List.Sums.{sum_by_more}
use Rattle.cps_edit.specs.Numbers.{numbers}
use Rattle.cps_chunk.specs.Exchange.{part_of, rejoined}
use Rattle.cps_chunk.specs.Code.Pieces.{lines_in, cut_to, ArePieces, GoesNotOn, part_numbers}
use Rattle.std.proofs.lemmas.List.{take_all}
use Rattle.cps_chunk.proofs.ChunkRunLemmas.{run-step, run-none}
use Rattle.cps_chunk.proofs.OldChunkLemmas.{run-numbers, run-seam, begin-pieces, end-pieces}
use Rattle.cps_chunk.proofs.exchange.set_run_before.Goals as goal

pub loop-chunk-preserved : goal.loop-chunk-preserved
loop-chunk-preserved c =
    let ns = c.args.lengths.now in
    let i = c.loop-chunk.chunk - 1 in
    let n = get_or ns i 0 in
    let lt : i < length ns = omega (arith, c.loop-chunk-test.true, c.loop-chunk.invariant.within) in
    let next : c.loop-chunk.chunk ≡ i + 1 = omega (arith, c.loop-chunk-test.true) in
    let end : c.loop-chunk.start ≡ sum (take (i + 1) ns) = c.loop-chunk.invariant.start ∙ ap (λ k. sum (take k ns)) next in
    let start : c.loop-chunk.start - n ≡ sum (take i ns) = omega (arith, end, sum_by_more (λ x. x) ns i 0 lt) in
    let old = lines_in c.args.pieces.now.items in
    let now = lines_in c.loop-chunk.pieces.items in
    let new = lines_in c.set_part_before.new.pieces.items in
    let st = c.loop-chunk.start - n in
    let before : now ≡ rejoined (part_of (c.args.from - c.loop-chunk.start) (c.args.to - c.loop-chunk.start) (drop (i + 1) ns)) old =
    c.loop-chunk.invariant.lines ∙ ap (λ k. rejoined (part_of (c.args.from - c.loop-chunk.start) (c.args.to - c.loop-chunk.start) (drop k ns)) old) next in
    let made : new ≡ rejoined (if nat_lt (c.args.from - st) (cut_to (c.args.to - st) n) then (cut_to (c.args.to - st) n - (c.args.from - st)) ∷ [] else []) now =
    rw (← c.saturating_sub.ensures, ← c.saturating_sub-in-loop-chunk.ensures) c.in_ok-set_part_before.ensures.lengths in
    record {
      start = start;
      within = omega (arith, lt);
      lines = run-step ns c.requires.chunks c.args.from c.args.to i n st c.loop-chunk.start old now new lt refl start end before made;
      pieces = λ more goes are.
          let ends : c.loop-chunk.start ≡ st + n = omega (arith, start, end, sum_by_more (λ x. x) ns i 0 lt) in
          let behind = numbers (c.loop-chunk.start + (c.args.from - c.loop-chunk.start)) (c.args.to - (c.loop-chunk.start + (c.args.from - c.loop-chunk.start))) ++ more in
          let set : (c.args.from - st < cut_to (c.args.to - st) n → cut_to (c.args.to - st) n < n → GoesNotOn (sum (take i ns) + cut_to (c.args.to - st) n) behind)
          → ArePieces ns (reverse c.loop-chunk.pieces.items) behind → ArePieces ns (reverse c.set_part_before.new.pieces.items) (part_numbers ns i (c.args.from - st) (cut_to (c.args.to - st) n) ++ behind) =
          rw (← c.saturating_sub.ensures, ← c.saturating_sub-in-loop-chunk.ensures) (c.in_ok-set_part_before.ensures.pieces ns behind c.requires.chunks lt refl) in
          subst (λ xs. ArePieces ns (reverse c.set_part_before.new.pieces.items) xs) (run-numbers ns c.args.from c.args.to i n st c.loop-chunk.start more start ends c.requires.ordered)
          (set (run-seam ns c.args.from c.args.to i n st c.loop-chunk.start more start ends goes) (c.loop-chunk.invariant.pieces more goes are));
    }

pub loop-chunk-init : goal.loop-chunk-init
loop-chunk-init c =
    let ns = c.args.lengths.now in
    record {
      start = c.lines_of-start.ensures ∙ ap sum (sym (take_all (length ns) ns (omega arith)));
      within = omega arith;
      lines = run-none ns (c.args.from - c.lines_of-start.result) (c.args.to - c.lines_of-start.result) (length ns) (lines_in c.args.pieces.now.items) (omega arith);
      pieces = λ more goes are. begin-pieces ns c.args.pieces.now.items c.args.from c.args.to c.lines_of-start.result more (omega (arith, c.lines_of-start.ensures, c.requires.within)) are;
    }

pub returns-clause-pieces : goal.returns-clause-pieces
returns-clause-pieces c = λ more goes are.
    let ns = c.args.lengths.now in
    let none : c.loop-chunk.chunk ≡ 0 = omega (arith, c.loop-chunk-test.false) in
    let empty : sum (take 0 ns) ≡ 0 = refl in
    let start : c.loop-chunk.start ≡ 0 = c.loop-chunk.invariant.start ∙ ap (λ k. sum (take k ns)) none ∙ empty in
    end-pieces ns c.loop-chunk.pieces.items c.args.from c.args.to c.loop-chunk.start more start (c.loop-chunk.invariant.pieces more goes are)
