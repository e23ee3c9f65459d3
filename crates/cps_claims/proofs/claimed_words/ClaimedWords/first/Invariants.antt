use Rattle.std.proofs.Common.{◌≡◌, ℕ, ◌<◌, false}
use Rattle.std.specs.Prelude.{List}
use Rattle.cps_claims.specs.Claims.{Claimed}
use Rattle.cps_claims.specs.Counts.{is_given}
use Rattle.cps_claims.specs.Code.Held.{Holds}
use Rattle.cps_claims.proofs.claimed_words.ClaimedWords.first.Given as goal

abbrev pub invariant-loop-address : goal.invariant-loop-address
invariant-loop-address l = (claims : List Claimed) → Holds l.self claims → (other : ℕ) → other < l.address → is_given claims other ≡ false
