use Rattle.std.proofs.Common.{◌≡◌, subst}
use Rattle.std.specs.Prelude.{IfOk}
use Rattle.cps_state.specs.Keys.{State}
use Rattle.cps_edit.specs.Passes.{traces_from}
use Rattle.cps_chunk.specs.Code.Replay.{now_by}
use Rattle.cps_chunk.proofs.walk.Walk.enter_all.Goals as goal

pub returns-clause-traces : goal.returns-clause-traces
returns-clause-traces c =
    subst (λ (s : State). IfOk c.enter_all.result (λ traces. traces.items ≡ traces_from (now_by c.args.self.now.replay.log s) c.args.lines.now)) c.past_of-past.ensures c.enter_all.ensures.traces
