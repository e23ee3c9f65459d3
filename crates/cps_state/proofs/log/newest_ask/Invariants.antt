use Rattle.std.proofs.Common.{◌≡◌, ◌≤◌, length, take}
use Rattle.cps_state.specs.Keys.{State}
use Rattle.cps_state.specs.Course.{last_ask}
use Rattle.cps_state.specs.Code.Log.{asked_in}
use Rattle.cps_state.proofs.log.newest_ask.Given as goal

-- what comes after has other keys
abbrev pub invariant-loop-place : goal.invariant-loop-place
invariant-loop-place l = record {
  within : l.place ≤ length l.asks;
  others : (state : State) → last_ask (asked_in state l.asks) l.key ≡ last_ask (asked_in state (take l.place l.asks)) l.key;
}

abbrev pub decreases-loop-place : goal.decreases-loop-place
decreases-loop-place l = l.place
