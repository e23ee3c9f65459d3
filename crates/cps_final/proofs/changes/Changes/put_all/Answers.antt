use Rattle.std.proofs.Common.{◌≤◌, Some, length, rules, ap, ◌∙◌}
use Rattle.cps_state.specs.declared.key.Answer.{Answer}
use Rattle.cps_final.specs.Changes.{with_change}
use Rattle.cps_final.specs.Code.Kept.{changes_in}
use Rattle.cps_final.proofs.ChangedLemmas.{put-next, put-all}
use Rattle.cps_final.proofs.changes.Changes.put_all.Goals as goal

pub loop-put-preserved : goal.loop-put-preserved
loop-put-preserved c state =
    let p = c.put-item.result in
    let made = c.in_ok-set.ensures.ok ∙ ap (λ (a : Answer). with_change (changes_in c.loop-put.self) p.key (Some a)) c.in_ok-answer.ensures in
    put-next _ _ state _ c.args.puts.now c.loop-put.put-index p (search rules) c.put-item.is made (c.loop-put.invariant state)

pub returns : goal.returns
returns c state =
    let all : length c.args.puts.now ≤ c.loop-put.put-index = search rules in
    put-all (changes_in c.loop-put.self) state _ c.args.puts.now c.loop-put.put-index all (c.loop-put.invariant state)
