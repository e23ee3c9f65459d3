use Rattle.std.proofs.Common.{refl}
use Rattle.cps_live.proofs.KeptLemmas.{kept-same}
use Rattle.cps_live.proofs.kept_source.KeptSource.keep_patch.Goals as goal

pub returns-clause-kept : goal.returns-clause-kept
returns-clause-kept c = kept-same c.requires.kept refl refl refl refl refl refl refl refl
