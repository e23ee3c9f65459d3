use Rattle.cps_live.proofs.DifferenceLemmas.{places-in}
use Rattle.cps_live.proofs.differences.places_stand.Goals as goal

pub returns-in-Some : goal.returns-in-Some
returns-in-Some c = λ yes. places-in c.args.ends c.in-Some.storage c.storage.result.now c.in-Some.is (c.places_stand.ensures yes) c.storage.ensures
