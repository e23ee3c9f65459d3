use Rattle.std.proofs.Common.{rules, arith}
use Rattle.cps_final.proofs.BlockLemmas.{names-next}
use Rattle.cps_final.proofs.blocks.count_named.Goals as goal

pub loop-put-preserved : goal.loop-put-preserved
loop-put-preserved c =
    let next = names-next c.args.puts.now c.loop-put.put-index c.put-item.result (search rules) c.put-item.is in
    record {
      names = omega (arith, next, c.loop-put.invariant.names, c.count_of_name-count.ensures.count);
      most = omega (arith, c.loop-put.invariant.most, c.count_of_name-count.ensures.most);
    }
