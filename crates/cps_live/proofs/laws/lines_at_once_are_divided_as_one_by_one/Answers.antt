use Rattle.std.proofs.Common.{refl}
use Rattle.cps_live.proofs.EnteringLemmas.{divides, appended}
use Rattle.cps_live.proofs.laws.lines_at_once_are_divided_as_one_by_one.Goals as goal

pub returns : goal.returns
returns c = (refl, λ count. (divides count, appended count))
