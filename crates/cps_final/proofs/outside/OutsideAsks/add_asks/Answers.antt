use Rattle.std.proofs.Common.{rules, arith, ◌<◌, ◌≤◌, List, length, take, subst}
use Rattle.std.proofs.lemmas.Bool.Decides.{nat_tests}
use Rattle.std.proofs.lemmas.List.{take_all}
use Rattle.cps_state.specs.declared.key.Asked.{Asked}
use Rattle.cps_final.specs.Run.{with_asks}
use Rattle.cps_final.specs.Code.RunGathering.{IsOutside}
use Rattle.cps_final.proofs.RunGatherLemmas.{asks-next}
use Rattle.cps_final.proofs.outside.OutsideAsks.add_asks.Goals as goal

pub loop-asked-preserved : goal.loop-asked-preserved
loop-asked-preserved c run is =
    let asks = c.args.asks.now in
    let i = c.loop-asked.asked-index in
    let lt : i < length asks = search rules in
    asks-next run asks i c.asked-item.result _ lt c.asked-item.is
    (c.in_ok-add_ask.ensures (record run { asks = with_asks run.puts run.asks (take i asks) }) (c.loop-asked.invariant run is))

pub returns : goal.returns
returns c run is =
    let asks = c.args.asks.now in
    let past : length asks ≤ c.loop-asked.asked-index = grind (arith, nat_tests) in
    subst (λ (more : List Asked). IsOutside c.loop-asked.self (record run { asks = with_asks run.puts run.asks more })) (take_all c.loop-asked.asked-index asks past) (c.loop-asked.invariant run is)
