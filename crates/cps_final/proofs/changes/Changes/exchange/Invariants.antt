use Rattle.std.proofs.Common.{◌≡◌, ◌≤◌, ◌+◌, take}
use Rattle.cps_state.specs.Code.Exchange.{room_of}
use Rattle.cps_final.specs.Code.Kept.{changes_in, count_of, keys_in, MayStandIn}
use Rattle.cps_final.proofs.ExchangeLemmas.{Exchanged, state_in}
use Rattle.cps_final.proofs.changes.Changes.exchange.Given as goal

-- the keys so far are exchanged, and there is room for those that are left
abbrev pub invariant-loop-i : goal.invariant-loop-i
invariant-loop-i l = record {
  keys : keys_in l.self ≡ keys_in l.fn.self;
  count : count_of l.self ≡ count_of l.fn.self;
  stands : MayStandIn (changes_in l.self);
  room : room_of l.fn.state ≤ room_of l.state + l.i;
  done : Exchanged (take l.i (keys_in l.fn.self)) (changes_in l.fn.self) (state_in l.fn.state) (changes_in l.self) (state_in l.state);
}
