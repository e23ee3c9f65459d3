use Rattle.cps_claims.proofs.ListedLemmas.{no-place-differs}
use Rattle.cps_claims.proofs.no_place_differs_so_each_digit_is_listed.Goals as goal

pub returns : goal.returns
returns c = no-place-differs
