use Rattle.std.proofs.Common.{◌≡◌, ℕ, ◌-◌, ◌≤◌, max, vec_len}
use Rattle.cps_claims.specs.Code.Listed.{digits_at}
use Rattle.cps_claims.proofs.listed_words.ListedWords.make_room.Given as goal

abbrev pub invariant-loop-words : goal.invariant-loop-words
invariant-loop-words l = record {
  same : (address : ℕ) → digits_at l.words.items address ≡ digits_at l.fn.words.items address;
  few : vec_len l.words ≤ max (vec_len l.fn.words) l.end;
}

abbrev pub decreases-loop-words : goal.decreases-loop-words
decreases-loop-words l = l.end - vec_len l.words
