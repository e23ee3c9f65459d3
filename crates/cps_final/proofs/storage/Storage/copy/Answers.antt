use Rattle.std.proofs.Common.{refl}
use Rattle.cps_final.proofs.GatherLemmas.{same-finals}
use Rattle.cps_final.proofs.storage.Storage.copy.Goals as goal

pub returns : goal.returns
returns c = same-finals _ _ refl c.in_ok-copy.ensures c.in_ok-copy_pool.ensures refl
