use Rattle.std.proofs.Common.{◌≡◌, ◌+◌, ◌-◌, Bool, true, false, ◌||◌, refl, arith}
use Rattle.std.specs.Prelude.{slice_index_or}
use Rattle.cps_claims.specs.Claims.{known, agrees, differs}
use Rattle.cps_claims.proofs.AgreementLemmas.{agrees-here}
use Rattle.cps_compare.specs.Told.{differs_at}
use Rattle.cps_compare.proofs.SurveyLemmas.{none-counted}
use Rattle.cps_compare.proofs.no_word_differs_so_each_digit_agrees.Goals as goal

or-front : (a b : Bool) → (a || b) ≡ false → a ≡ false
or-front false b is = refl
or-front true b is = cc

pub returns : goal.returns
returns c = λ sides low high none k d below from to.
    let claim = slice_index_or (known sides.claims) k d in
    let here : differs_at sides claim.address ≡ false = none-counted (differs_at sides) low (high + 1 - low) claim.address from (omega arith) none in
    agrees-here sides.words sides.claims d k below (agrees sides.words claim) refl (or-front (differs sides.words sides.claims claim.address) _ here)
