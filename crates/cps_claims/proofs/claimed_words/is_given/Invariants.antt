use Rattle.std.proofs.Common.{◌≡◌, ℕ, ◌<◌, false}
use Rattle.cps_claims.specs.Code.Slots.{is_known, state_of}
use Rattle.cps_claims.proofs.claimed_words.is_given.Given as goal

abbrev pub invariant-loop-place : goal.invariant-loop-place
invariant-loop-place l = (place : ℕ) → place < l.place → is_known ((state_of l.word).slots place) ≡ false
