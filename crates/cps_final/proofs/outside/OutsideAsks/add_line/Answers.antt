use Rattle.std.proofs.Common.{◌++◌, List, subst}
use Rattle.cps_state.specs.declared.key.Asked.{Asked}
use Rattle.cps_state.specs.declared.key.Put.{Put}
use Rattle.cps_final.specs.Run.{with_asks}
use Rattle.cps_final.specs.Code.RunGathering.{IsOutside}
use Rattle.cps_final.proofs.outside.OutsideAsks.add_line.Goals as goal

pub returns : goal.returns
returns c run is =
    let asked = c.in_ok-add_asks.ensures run is in
    let made = c.in_ok-add_puts.ensures (record run { asks = with_asks run.puts run.asks c.asks.result.now }) asked in
    subst (λ (asks : List Asked). IsOutside c.add_puts.new.self (record { asks = with_asks run.puts run.asks asks; puts = run.puts ++ c.args.trace.now.puts })) c.asks.ensures
    (subst (λ (puts : List Put). IsOutside c.add_puts.new.self (record { asks = with_asks run.puts run.asks c.asks.result.now; puts = run.puts ++ puts })) c.puts.ensures made)
