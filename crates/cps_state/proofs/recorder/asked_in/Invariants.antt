use Rattle.std.proofs.Common.{◌≡◌, take}
use Rattle.cps_state.specs.Code.Log.{asked_in}
use Rattle.cps_state.proofs.recorder.asked_in.Given as goal

abbrev pub invariant-loop-key : goal.invariant-loop-key
invariant-loop-key g l = l.asks.items ≡ asked_in (g.L.Lookup.answer l.state) (take l.key-index l.keys)
