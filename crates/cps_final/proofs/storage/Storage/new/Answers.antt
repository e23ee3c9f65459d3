use Rattle.std.proofs.Common.{refl}
use Rattle.cps_final.proofs.GatherLemmas.{same-finals}
use Rattle.cps_final.proofs.storage.Storage.new.Goals as goal

pub returns : goal.returns
returns c = same-finals _ _ refl c.new.ensures c.with_hasher.ensures.empty refl
