use Rattle.std.proofs.Common.{ap, ◌∙◌}
use Rattle.std.proofs.lemmas.List.{take_all}
use Rattle.cps_state.specs.Code.Log.{asked_in}
use Rattle.cps_state.proofs.LogLemmas.{asked-next}
use Rattle.cps_state.proofs.recorder.asked_in.Goals as goal

pub loop-key-preserved : goal.loop-key-preserved
loop-key-preserved g c =
    asked-next (g.L.Lookup.answer c.args.state.now) c.args.keys.now c.loop-key.key-index _ c.in_ok-answer.answer c.loop-key.asks.items c.push.new.self.items c.loop-key-test.true
    (c.in_ok-answer.ensures ∙ c.ask.ensures) c.in_ok-push.ensures.items c.loop-key.invariant

pub returns : goal.returns
returns g c = c.loop-key.invariant ∙ ap (asked_in (g.L.Lookup.answer c.args.state.now)) (take_all c.loop-key.key-index c.args.keys.now c.loop-key-test.false)
