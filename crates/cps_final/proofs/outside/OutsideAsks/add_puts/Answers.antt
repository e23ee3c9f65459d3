use Rattle.std.proofs.Common.{rules, arith, ◌<◌, ◌≤◌, ◌++◌, refl, List, length, sym, subst, append-nil}
use Rattle.std.proofs.lemmas.Bool.Decides.{nat_tests}
use Rattle.std.proofs.lemmas.List.{take_all}
use Rattle.cps_state.specs.declared.key.Put.{Put}
use Rattle.cps_final.specs.Code.RunGathering.{IsOutside}
use Rattle.cps_final.proofs.RunGatherLemmas.{puts-more}
use Rattle.cps_final.proofs.outside.OutsideAsks.add_puts.Goals as goal

pub loop-put-init : goal.loop-put-init
loop-put-init c run is = subst (λ (ps : List Put). IsOutside c.args.self.now (record run { puts = ps })) (sym (append-nil run.puts)) is

pub loop-put-preserved : goal.loop-put-preserved
loop-put-preserved c run is =
    let puts = c.args.puts.now in
    let i = c.loop-put.put-index in
    let lt : i < length puts = search rules in
    puts-more run puts i c.put-item.result _ _ lt c.put-item.is (c.loop-put.invariant run is) refl c.in_ok-insert.ensures.updates.0

pub returns : goal.returns
returns c run is =
    let puts = c.args.puts.now in
    let past : length puts ≤ c.loop-put.put-index = grind (arith, nat_tests) in
    subst (λ (ps : List Put). IsOutside c.loop-put.self (record run { puts = run.puts ++ ps })) (take_all c.loop-put.put-index puts past) (c.loop-put.invariant run is)
