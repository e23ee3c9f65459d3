use Rattle.std.proofs.Common.{Some, ap, ◌∙◌}
use Rattle.cps_state.specs.declared.key.Answer.{Answer}
use Rattle.cps_final.specs.Changes.{with_change}
use Rattle.cps_final.specs.Code.Kept.{changes_in}
use Rattle.cps_chunk.proofs.ComparedLemmas.{puts-next, puts-all, last_puts-more}
use Rattle.cps_chunk.proofs.change_log.ChangeLog.put.Goals as goal

pub loop-put-preserved : goal.loop-put-preserved
loop-put-preserved c =
    let put = c.put-item.result in
    record {
      present = puts-next _ _ _ c.args.puts.now c.loop-put.put-index put c.loop-put-test.true c.put-item.is
          (c.in_ok-set.ensures.ok ∙ ap (λ (a : Answer). with_change (changes_in c.loop-put.self.present) put.key (Some a)) c.in_ok-answer.ensures)
          c.loop-put.invariant.present;
      changes = c.loop-put.invariant.changes;
    }

pub returns-clause-present : goal.returns-clause-present
returns-clause-present c = puts-all _ _ c.args.puts.now c.loop-put.put-index c.loop-put-test.false c.loop-put.invariant.present

pub returns-clause-puts : goal.returns-clause-puts
returns-clause-puts c news was =
    puts-all _ _ c.args.puts.now c.loop-put.put-index c.loop-put-test.false c.loop-put.invariant.present
    ∙ last_puts-more (changes_in c.args.self.now.present) news c.args.puts.now was
