use Rattle.std.proofs.Common.{rules, arith}
use Rattle.cps_final.proofs.BlockLemmas.{grown-next, names-next}
use Rattle.cps_final.proofs.blocks.Blocks.put_all.Goals as goal

pub put-requires : goal.put-requires
put-requires c =
    let next = names-next c.args.puts.now c.loop-put.put-index c.put-item.result (search rules) c.put-item.is in
    omega (arith, next, c.loop-put.invariant.room)

pub loop-put-preserved : goal.loop-put-preserved
loop-put-preserved c =
    let puts = c.args.puts.now in
    let i = c.loop-put.put-index in
    let next = names-next puts i c.put-item.result (search rules) c.put-item.is in
    record {
      room = omega (arith, next, c.loop-put.invariant.room, c.put.ensures.room);
      left = grown-next _ _ _ puts i c.put-item.result (search rules) c.put-item.is c.put.ensures.layout c.loop-put.invariant.left;
    }
