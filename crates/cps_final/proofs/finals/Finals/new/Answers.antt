use Rattle.std.proofs.Common.{[]}
use Rattle.cps_final.specs.Finals.{finals_of}
use Rattle.cps_final.proofs.GatherLemmas.{same-but-state}
use Rattle.cps_final.proofs.finals.Finals.new.Goals as goal

pub returns : goal.returns
returns c = same-but-state _ (finals_of []) _ _ c.new.ensures c.first.ensures
