use Rattle.std.proofs.Common.{◌++◌, List, ap, ◌∙◌}
use Rattle.cps_state.specs.declared.key.Put.{Put}
use Rattle.cps_state.specs.Course.{Trace}
use Rattle.cps_state.specs.Keys.{overwritten}
use Rattle.cps_final.specs.Changes.{changed}
use Rattle.cps_final.specs.Code.Kept.{changes_in}
use Rattle.cps_chunk.specs.declared.change_log.ChangeLog.{ChangeLog}
use Rattle.cps_chunk.specs.Code.Compared.{with_puts}
use Rattle.cps_chunk.specs.Noted.{last_puts}
use Rattle.cps_chunk.specs.Code.Replay.{now_by, now_with}
use Rattle.cps_chunk.proofs.ReplayLemmas.{entered}
use Rattle.cps_chunk.proofs.replay.Replay.enter.Goals as goal

pub returns-clause-puts : goal.returns-clause-puts
returns-clause-puts g c news were =
    c.in_ok-put.ensures.puts news (ap (λ (log : ChangeLog). changes_in log.present) c.step.ensures.log ∙ were)
    ∙ ap (λ (ps : List Put). last_puts (news ++ ps)) c.puts.ensures

pub returns-clause-state : goal.returns-clause-state
returns-clause-state g c =
    let past = g.L.Lookup.answer c.args.past.now in
    let log = c.args.self.now.log in
    let same = c.step.ensures.log in
    (λ i. changed (changes_in c.put.new.self.present) (changed (changes_in ((c.put.ensures.changes ∙ ap (λ (l : ChangeLog). l.changes) same) i)) past))
    ∙ entered (changes_in log.present) _ (now_by log past) c.puts.result.now
    (c.in_ok-put.ensures.present ∙ ap (λ (l : ChangeLog). with_puts (changes_in l.present) c.puts.result.now) same)
    ∙ (λ i. overwritten (now_with log past) ((c.puts.ensures ∙ ap (λ (t : Trace). t.puts) c.in_ok-trace.ensures.trace) i))
