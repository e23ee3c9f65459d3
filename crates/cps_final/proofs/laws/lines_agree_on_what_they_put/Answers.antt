use Rattle.cps_final.proofs.ChangedLemmas.{settled-law}
use Rattle.cps_final.proofs.laws.lines_agree_on_what_they_put.Goals as goal

pub returns : goal.returns
returns c = settled-law
