use Rattle.std.proofs.Common.{sym, ap, ◌∙◌}
use Rattle.cps_state.specs.Keys.{State}
use Rattle.cps_final.specs.Holds.{holds}
use Rattle.cps_chunk.specs.Code.Replay.{now_with}
use Rattle.cps_chunk.proofs.CarryLemmas.{held-puts, put-also}
use Rattle.cps_chunk.proofs.replay.Replay.carry.Goals as goal

pub returns-then-still_holds-clause-puts : goal.returns-then-still_holds-clause-puts
returns-then-still_holds-clause-puts g c =
    let t = c.args.old.trace.now in
    let now = now_with c.args.self.now.log (g.L.Lookup.answer c.args.past.now) in
    put-also c.put.result c.args.self.now.log c.put.new.self c.puts.result.now _
    (c.puts.ensures ∙ held-puts c.args.old.line.now t now c.requires.meant (ap (λ (state : State). holds t.asks state) (sym c.now.ensures) ∙ sym c.still_holds.ensures.holds ∙ c.if-still_holds.true)) c.put.ensures.present c.put.ensures.changes
