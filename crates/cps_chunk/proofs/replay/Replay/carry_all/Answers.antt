use Rattle.std.proofs.Common.{List, ap, ◌∙◌}
use Rattle.cps_state.specs.declared.key.Put.{Put}
use Rattle.cps_final.specs.Code.Kept.{changes_in}
use Rattle.cps_chunk.specs.Code.Compared.{with_puts}
use Rattle.cps_chunk.proofs.CarryLemmas.{carried-next, carried-done}
use Rattle.cps_chunk.proofs.replay.Replay.carry_all.Goals as goal

pub loop-trace-preserved : goal.loop-trace-preserved
loop-trace-preserved c = record {
  present = carried-next _ _ _ c.args.traces.now c.loop-trace.trace-index c.trace-item.result c.loop-trace-test.true c.trace-item.is
      (c.in_ok-put.ensures.present ∙ ap (λ (ps : List Put). with_puts (changes_in c.loop-trace.self.log.present) ps) c.puts.ensures) c.loop-trace.invariant.present;
  changes = c.put.ensures.changes ∙ c.loop-trace.invariant.changes;
  news = c.loop-trace.invariant.news;
}

pub returns-clause-puts : goal.returns-clause-puts
returns-clause-puts c = record {
  present = carried-done _ _ c.args.traces.now c.loop-trace.trace-index c.loop-trace-test.false c.loop-trace.invariant.present;
  changes = c.loop-trace.invariant.changes;
}
