use Rattle.std.proofs.Common.{◌≡◌, ◌+◌, ◌-◌, suc, arith, ap, sym, ◌∙◌}
use Rattle.cps_chunk.specs.Code.GrowingChunks.{filled}
use Rattle.cps_chunk.proofs.growing_chunks.lengths_of_insertions.Goals as goal

pub loop-preserved : goal.loop-preserved
loop-preserved c =
    let next : c.args.count - c.loop.counter ≡ suc (c.args.count - (c.loop.counter + 1)) = omega (arith, c.loop-test.true) in
    record {
      filling = c.in_ok-insert.ensures.filling;
      at = omega (arith, c.in_ok-insert.ensures.at, c.loop.invariant.at);
      all = c.in_ok-insert.ensures.all (c.args.count - (c.loop.counter + 1)) ∙ ap (λ k. filled k c.loop.filling) (sym next) ∙ c.loop.invariant.all;
    }
