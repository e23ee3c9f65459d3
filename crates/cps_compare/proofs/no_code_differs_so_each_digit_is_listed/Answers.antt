use Rattle.std.proofs.Common.{◌≡◌, ℕ, ◌+◌, ◌-◌, Bool, true, false, cond, List, [], ◌∷◌, ◌++◌, length, refl, arith}
use Rattle.std.specs.Prelude.{nat_lt}
use Rattle.cps_claims.specs.ListedPlaces.{differing_places, lacking_places}
use Rattle.cps_claims.proofs.ListedLemmas.{no-place-differs}
use Rattle.std.proofs.lemmas.Bool.Decides.{nat_tests}
use Rattle.cps_compare.specs.ListedSides.{listed_findings}
use Rattle.cps_compare.proofs.SurveyLemmas.{none-counted}
use Rattle.cps_compare.proofs.no_code_differs_so_each_digit_is_listed.Goals as goal

front-none : (xs ys : List ℕ) → nat_lt 0 (length (xs ++ ys)) ≡ false → length xs ≡ 0
front-none [] ys none = refl
front-none (x ∷ xs) ys none = grind (arith, nat_tests)

pub returns : goal.returns
returns c = λ sides low high none address place listed from to here known.
    let same = none-counted (listed_findings sides).differs low (high + 1 - low) address from (omega arith) none in
    let deck = sides.deck address in
    let text = sides.text address in
    no-place-differs deck text (front-none (differing_places deck text) (cond sides.whole (lacking_places deck text) []) same) place listed here known
