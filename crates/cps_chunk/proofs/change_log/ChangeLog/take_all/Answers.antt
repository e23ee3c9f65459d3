use Rattle.std.proofs.Common.{List, refl, ap, ◌∙◌}
use Rattle.cps_state.specs.declared.key.Put.{Put}
use Rattle.cps_final.specs.Changes.{changed}
use Rattle.cps_final.specs.Code.Kept.{changes_in}
use Rattle.cps_chunk.specs.Code.Compared.{with_all_kept, with_puts}
use Rattle.cps_chunk.specs.Noted.{asked_or}
use Rattle.cps_chunk.proofs.ComparedLemmas.{all-kept-none, taken-next, former-next, held-next}
use Rattle.cps_chunk.proofs.change_log.ChangeLog.take_all.Goals as goal

pub loop-trace-init : goal.loop-trace-init
loop-trace-init g c = record {
  present = all-kept-none (changes_in c.args.self.now.present) (changed (changes_in c.args.self.now.changes) (g.L.Lookup.answer c.args.before.now));
  former = c.empty.ensures;
  changes = refl;
  held = c.requires;
}

pub loop-trace-preserved : goal.loop-trace-preserved
loop-trace-preserved g c =
    let trace = c.trace-item.result in
    let before = g.L.Lookup.answer c.args.before.now in
    let so_far = c.loop-trace.invariant in
    record {
      present = taken-next before c.args.gone.now c.loop-trace.trace-index trace c.loop-trace-test.true c.trace-item.is so_far.held
          (changes_in c.args.self.now.present) (changes_in c.loop-trace.self.present) (changes_in c.take.new.self.present) (changes_in c.args.self.now.changes) so_far.present
          (c.in_ok-take.ensures.present
          ∙ (λ i. with_all_kept (changes_in c.loop-trace.self.present) (c.puts.ensures i) (changed (changes_in (so_far.changes i)) (asked_or (c.asks.ensures i) before))));
      former = former-next before c.args.gone.now c.loop-trace.trace-index trace c.loop-trace-test.true c.trace-item.is so_far.held (changes_in c.loop-trace.self.former) (changes_in c.take.new.self.former) so_far.former
          (c.in_ok-take.ensures.former ∙ ap (λ (ps : List Put). with_puts (changes_in c.loop-trace.self.former) ps) c.puts.ensures);
      changes = c.take.ensures.changes ∙ so_far.changes;
      held = held-next before c.args.gone.now c.loop-trace.trace-index trace c.loop-trace-test.true c.trace-item.is so_far.held;
    }
