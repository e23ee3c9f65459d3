use Rattle.std.proofs.Common.{refl}
use Rattle.cps_final.specs.Code.Storage.{stored}
use Rattle.cps_final.proofs.GatherLemmas.{same-but-state}
use Rattle.cps_final.proofs.finals.Finals.make_room.Goals as goal

pub returns-clause-same : goal.returns-clause-same
returns-clause-same c = same-but-state (stored c.args.self.now.storage) (stored c.args.self.now.storage) _ _ refl c.reserve.ensures.answer
