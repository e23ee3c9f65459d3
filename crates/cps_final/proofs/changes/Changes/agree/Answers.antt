use Rattle.std.proofs.Common.{◌≤◌, length, rules}
use Rattle.cps_final.proofs.ChangedLemmas.{settled-next, settled-all}
use Rattle.cps_final.proofs.changes.Changes.agree.Goals as goal

pub loop-put-preserved : goal.loop-put-preserved
loop-put-preserved c =
    settled-next _ _ _ c.args.puts.now c.loop-put.put-index c.put-item.result (search rules) c.put-item.is c.forget.ensures c.loop-put.invariant

pub returns : goal.returns
returns c =
    let all : length c.args.puts.now ≤ c.loop-put.put-index = search rules in
    settled-all _ _ c.args.puts.now c.loop-put.put-index all c.loop-put.invariant
