-- For the claims that are kept by address, not part of what a reader believes: they are kept.
use Rattle.std.specs.Prelude.{◌≡◌, ◌<◌, List}
use Rattle.std.specs.List.{AllByRecursion}
use Rattle.cps_claims.specs.declared.claimed_words.ClaimedWords.{ClaimedWords}
use Rattle.cps_claims.specs.Claims.{Claimed}
use Rattle.cps_claims.specs.Code.Slots.{none_claimed, after, state_at}

-- these claims are kept, and each is for a digit of a word and has a row
pub record Holds (words : ClaimedWords) (claims : List Claimed) : Type 0 where
  pub states : state_at words.words.items ≡ after none_claimed claims
  pub places : AllByRecursion (λ claim. claim.place < 20) claims
  pub rows : AllByRecursion (λ claim. 0 < claim.row) claims
