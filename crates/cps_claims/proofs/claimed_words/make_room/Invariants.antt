use Rattle.std.proofs.Common.{◌≡◌, ℕ, ◌-◌, ◌≤◌, max, vec_len}
use Rattle.cps_claims.specs.Code.Slots.{state_at}
use Rattle.cps_claims.proofs.claimed_words.make_room.Given as goal

abbrev pub invariant-loop-words : goal.invariant-loop-words
invariant-loop-words l = record {
  same : (address : ℕ) → state_at l.words.items address ≡ state_at l.fn.words.items address;
  few : vec_len l.words ≤ max (vec_len l.fn.words) l.end;
}

abbrev pub decreases-loop-words : goal.decreases-loop-words
decreases-loop-words l = l.end - vec_len l.words
