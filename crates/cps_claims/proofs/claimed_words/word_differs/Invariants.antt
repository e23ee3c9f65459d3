use Rattle.std.proofs.Common.{◌≡◌, ℕ, ◌<◌, false}
use Rattle.cps_claims.specs.Code.Slots.{slot_differs, state_of}
use Rattle.cps_claims.specs.Code.Slots.{deck_digit}
use Rattle.cps_claims.proofs.claimed_words.word_differs.Given as goal

abbrev pub invariant-loop-place : goal.invariant-loop-place
invariant-loop-place l = (place : ℕ) → place < l.place → slot_differs (deck_digit l.deck place) ((state_of l.word).slots place) ≡ false
