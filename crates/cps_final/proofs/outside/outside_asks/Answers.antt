use Rattle.std.proofs.Common.{rules, arith, ◌<◌, ◌≤◌, ◌∙◌, List, length, take, ap}
use Rattle.std.proofs.lemmas.Bool.Decides.{nat_tests}
use Rattle.std.proofs.lemmas.List.{take_all}
use Rattle.cps_state.specs.Course.{Trace}
use Rattle.cps_final.specs.Run.{empty_run, run_of}
use Rattle.cps_final.proofs.RunGatherLemmas.{lines-next}
use Rattle.cps_final.proofs.outside.outside_asks.Goals as goal

pub loop-trace-preserved : goal.loop-trace-preserved
loop-trace-preserved c =
    let traces = c.args.traces.now in
    let i = c.loop-trace.trace-index in
    let lt : i < length traces = search rules in
    lines-next empty_run traces i c.trace-item.result _ lt c.trace-item.is (c.in_ok-add_line.ensures (run_of (take i traces)) c.loop-trace.invariant)

pub returns : goal.returns
returns c =
    let traces = c.args.traces.now in
    let past : length traces ≤ c.loop-trace.trace-index = grind (arith, nat_tests) in
    c.into_asks.ensures ∙ c.loop-trace.invariant.asks ∙ ap (λ (ts : List Trace). (run_of ts).asks) (take_all c.loop-trace.trace-index traces past)
