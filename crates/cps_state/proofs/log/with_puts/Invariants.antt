use Rattle.std.proofs.Common.{take}
use Rattle.std.specs.HashMap as hash
use Rattle.cps_state.specs.declared.key.Key.{Key}
use Rattle.cps_state.specs.contracts.key.KeyPartialEq.TheImpl.{eq-value}
use Rattle.cps_state.specs.Keys.{State}
use Rattle.cps_state.specs.Code.Log.{asked_in, Indexes}
use Rattle.cps_state.proofs.log.with_puts.Given as goal

abbrev pub invariant-loop-place : goal.invariant-loop-place
invariant-loop-place l = (state : State) (k : Key) → Indexes (asked_in state l._asks) (take l.place l.puts) k (hash.get (eq-value.it) l.index k)
