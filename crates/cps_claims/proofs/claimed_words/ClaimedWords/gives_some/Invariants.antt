use Rattle.std.proofs.Common.{◌≡◌, ℕ, ◌<◌, ◌≤◌, false}
use Rattle.cps_claims.specs.Claims.{Claimed}
use Rattle.cps_claims.specs.Counts.{is_given}
use Rattle.cps_claims.specs.Code.Held.{Holds}
use Rattle.std.specs.Prelude.{List}
use Rattle.cps_claims.proofs.claimed_words.ClaimedWords.gives_some.Given as goal

abbrev pub invariant-loop-address : goal.invariant-loop-address
invariant-loop-address l = (claims : List Claimed) → Holds l.self claims → (address : ℕ) → l.fn.low ≤ address → address < l.address → is_given claims address ≡ false
