use Rattle.std.proofs.Common.{List, ap, ◌∙◌}
use Rattle.cps_state.specs.declared.key.Put.{Put}
use Rattle.cps_final.specs.Changes.{agreed}
use Rattle.cps_final.specs.Code.Kept.{changes_in}
use Rattle.cps_chunk.proofs.KeysLemmas.{settle-next, settle-done}
use Rattle.cps_chunk.proofs.replay.Replay.agree_all.Goals as goal

pub loop-trace-preserved : goal.loop-trace-preserved
loop-trace-preserved c = record {
  changes = settle-next _ _ _ c.args.traces.now c.loop-trace.trace-index c.trace-item.result c.loop-trace-test.true c.trace-item.is
      (c.agree.ensures.changes ∙ ap (λ (ps : List Put). agreed (changes_in c.loop-trace.self.log.changes) ps) c.puts.ensures) c.loop-trace.invariant.changes;
  present = c.agree.ensures.present ∙ c.loop-trace.invariant.present;
  news = c.loop-trace.invariant.news;
}

pub returns-clause-changes : goal.returns-clause-changes
returns-clause-changes c = settle-done _ _ c.args.traces.now c.loop-trace.trace-index c.loop-trace-test.false c.loop-trace.invariant.changes
