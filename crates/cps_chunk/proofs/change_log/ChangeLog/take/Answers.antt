use Rattle.std.proofs.Common.{Some, ap, ◌∙◌}
use Rattle.cps_state.specs.declared.key.Answer.{Answer}
use Rattle.cps_final.specs.declared.changes.Changes.{Changes}
use Rattle.cps_final.specs.Changes.{changed, with_change}
use Rattle.cps_final.specs.Code.Kept.{changes_in}
use Rattle.cps_chunk.specs.Code.Compared.{with_all_kept, with_kept, with_puts}
use Rattle.cps_chunk.proofs.ComparedLemmas.{kept-next, kept-all, puts-next, puts-all}
use Rattle.cps_chunk.proofs.change_log.ChangeLog.take.Goals as goal

pub loop-put-preserved : goal.loop-put-preserved
loop-put-preserved g c =
    let put = c.put-item.result in
    let before = g.L.Lookup.answer c.args.before.now in
    let there = changed (changes_in c.args.self.now.changes) before in
    record {
      present = kept-next (changes_in c.keep.new.self.present) (changes_in c.loop-put.self.present)
          (with_all_kept (changes_in c.args.self.now.present) c.args.puts.now there) there c.args.puts.now c.loop-put.put-index put c.loop-put-test.true c.put-item.is
          (c.in_ok-keep.ensures.present
          ∙ ap (λ (now : Changes). with_kept (changes_in c.loop-put.self.present) put.key (changed (changes_in now) before put.key)) c.loop-put.invariant.changes)
          c.loop-put.invariant.present;
      former = puts-next (changes_in c.set.new.self) (changes_in c.loop-put.self.former)
          (with_puts (changes_in c.args.self.now.former) c.args.puts.now) c.args.puts.now c.loop-put.put-index put c.loop-put-test.true c.put-item.is
          (c.in_ok-set.ensures.ok ∙ ap (λ (a : Answer). with_change (changes_in c.keep.new.self.former) put.key (Some a)) c.in_ok-answer.ensures
          ∙ ap (λ (now : Changes). with_change (changes_in now) put.key (Some put.answer)) c.keep.ensures.former)
          c.loop-put.invariant.former;
      changes = c.keep.ensures.changes ∙ c.loop-put.invariant.changes;
    }

pub returns-clause-present : goal.returns-clause-present
returns-clause-present g c =
    kept-all _ _ (changed (changes_in c.args.self.now.changes) (g.L.Lookup.answer c.args.before.now)) c.args.puts.now c.loop-put.put-index c.loop-put-test.false c.loop-put.invariant.present

pub returns-clause-former : goal.returns-clause-former
returns-clause-former g c = puts-all _ _ c.args.puts.now c.loop-put.put-index c.loop-put-test.false c.loop-put.invariant.former
