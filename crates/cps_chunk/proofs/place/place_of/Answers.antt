use Rattle.std.proofs.Common.{◌≡◌, suc, ◌+◌, ◌-◌, ◌<◌, ◌≤◌, sym, ap, ◌∙◌, length, get_or, take, drop, arith}
use Rattle.std.proofs.lemmas.Bool.Decides.{nat_tests}
use Rattle.std.proofs.lemmas.List.{take_all}
use Rattle.std.proofs.lemmas.List.Sums.{sum_by_more}
use Rattle.std.specs.Prelude.{sum}
use Rattle.cps_chunk.specs.Division.{chunk_of}
use Rattle.cps_chunk.proofs.PlaceLemmas.{past-chunk, in-chunk, last-chunk}
use Rattle.cps_chunk.proofs.place.place_of.Goals as goal

pub returns-then-line-next-clause-chunk : goal.returns-then-line-next-clause-chunk
returns-then-line-next-clause-chunk c =
    let ns = c.args.lengths.now in
    let i = c.loop-chunk.chunk in
    let more : suc i < length ns = grind (arith, nat_tests, c.loop-chunk-test.true, c.requires.some) in
    let within : c.args.line - c.loop-chunk.before ≤ get_or ns i 0 = grind (arith, nat_tests, c.if-line-next.true) in
    let here = in-chunk (c.args.line - c.loop-chunk.before) i ns more within in
    omega (arith, c.loop-chunk.invariant.chunk, here)

pub loop-chunk-preserved : goal.loop-chunk-preserved
loop-chunk-preserved c =
    let ns = c.args.lengths.now in
    let i = c.loop-chunk.chunk in
    let n = get_or ns i 0 in
    let more : suc i < length ns = grind (arith, nat_tests, c.loop-chunk-test.true, c.requires.some) in
    let behind : n < c.args.line - c.loop-chunk.before = grind (arith, nat_tests, c.if-line-next.false) in
    let at : i < length ns = omega (arith, more) in
    let next = past-chunk (c.args.line - c.loop-chunk.before) i ns more behind in
    let same : c.args.line - (c.loop-chunk.before + n) ≡ c.args.line - c.loop-chunk.before - n = omega arith in
    let one : i + 1 ≡ suc i = omega arith in
    let there : chunk_of (c.args.line - (c.loop-chunk.before + n)) (drop (i + 1) ns) ≡ chunk_of (c.args.line - c.loop-chunk.before - n) (drop (suc i) ns) =
    ap (λ k. chunk_of k (drop (i + 1) ns)) same ∙ ap (λ k. chunk_of (c.args.line - c.loop-chunk.before - n) (drop k ns)) one in
    record {
      chunk = omega (arith, c.loop-chunk.invariant.chunk, next, there);
      before = ap (λ k. k + n) c.loop-chunk.invariant.before ∙ sym (sum_by_more (λ x. x) ns i 0 at);
      above = grind (arith, nat_tests, c.if-line-next.false);
    }

pub returns-clause-chunk : goal.returns-clause-chunk
returns-clause-chunk c =
    let ns = c.args.lengths.now in
    let i = c.loop-chunk.chunk in
    let last : suc i ≡ length ns = grind (arith, nat_tests, c.loop-chunk-test.false, c.loop-chunk.auto.chunk-end, c.requires.some) in
    let here = last-chunk (c.args.line - c.loop-chunk.before) i ns last in
    omega (arith, c.loop-chunk.invariant.chunk, here, last)

pub returns-clause-below : goal.returns-clause-below
returns-clause-below c le =
    let ns = c.args.lengths.now in
    let i = c.loop-chunk.chunk in
    let last : suc i ≡ length ns = grind (arith, nat_tests, c.loop-chunk-test.false, c.loop-chunk.auto.chunk-end, c.requires.some) in
    let at : i < length ns = omega (arith, last) in
    let all : sum ns ≡ sum (take i ns) + get_or ns i 0 = ap sum (sym (take_all (i + 1) ns (omega (arith, last)))) ∙ sum_by_more (λ x. x) ns i 0 at in
    let same : length ns - 1 ≡ i = omega (arith, last) in
    let here : get_or ns (length ns - 1) 0 ≡ get_or ns i 0 = ap (λ k. get_or ns k 0) same in
    omega (arith, le, all, c.loop-chunk.invariant.before, here)
