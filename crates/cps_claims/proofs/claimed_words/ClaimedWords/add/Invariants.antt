use Rattle.std.proofs.Common.{◌≡◌, ◌+◌, length}
use Rattle.cps_claims.specs.Words.{size_of}
use Rattle.cps_claims.specs.Claims.{digits_from}
use Rattle.cps_claims.specs.Code.Slots.{state_at, after}
use Rattle.cps_claims.proofs.claimed_words.ClaimedWords.add.Given as goal

-- the claims so far, and those of what is left of the row
abbrev pub invariant-loop-left : goal.invariant-loop-left
invariant-loop-left l = record {
  claims :
      after (state_at l.self.words.items) (digits_from (size_of l.fn.form) l.claim.row l.claim.address l.at l.left)
      ≡ after (state_at l.fn.self.words.items) (digits_from (size_of l.fn.form) l.claim.row l.claim.address l.claim.place l.digits);
  count : l.at + length l.left ≡ l.claim.place + length l.digits;
}

abbrev pub decreases-loop-left : goal.decreases-loop-left
decreases-loop-left l = length l.left
