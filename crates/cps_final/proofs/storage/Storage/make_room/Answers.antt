use Rattle.std.proofs.Common.{refl}
use Rattle.cps_final.proofs.GatherLemmas.{same-finals}
use Rattle.cps_final.proofs.storage.Storage.make_room.Goals as goal

pub returns-in_err-reserve-clause-same : goal.returns-in_err-reserve-clause-same
returns-in_err-reserve-clause-same c = same-finals _ _ refl c.reserve.ensures.same refl refl

pub returns-in_err-reserve-2-clause-same : goal.returns-in_err-reserve-2-clause-same
returns-in_err-reserve-2-clause-same c = same-finals _ _ refl c.reserve.ensures.same c.reserve-2.ensures.keys refl

pub returns-clause-same : goal.returns-clause-same
returns-clause-same c = same-finals _ _ refl c.reserve.ensures.same c.reserve-2.ensures.keys refl
